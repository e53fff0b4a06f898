pub mod Joined
pub mod WorkedRecord
