pub mod Modes
pub mod Spelling
pub mod Put
