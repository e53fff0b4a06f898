pub mod Tasks
pub mod Entries
pub mod Refusals
pub mod Show
pub mod WorkedRecord
