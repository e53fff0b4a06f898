pub mod Numerals
pub mod PrintedBytes
pub mod Spelling
