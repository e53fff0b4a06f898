pub mod Lines
pub mod Spelled
pub mod Causes
pub mod TaskTables
pub mod Scripts
pub mod IsScript
pub mod WrittenTexts
