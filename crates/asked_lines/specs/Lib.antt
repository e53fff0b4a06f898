pub mod ByTask
pub mod Blocks
