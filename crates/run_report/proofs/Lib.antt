pub mod Wrote
pub mod Rests
pub mod LoggingModes
pub mod Whole
