pub mod Numerals
pub mod Words
pub mod Audits
pub mod Shown
