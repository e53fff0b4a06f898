pub mod Entries
pub mod Versions
