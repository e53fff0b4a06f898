pub mod Lines
pub mod Tasks
pub mod Causes
pub mod Grammar
