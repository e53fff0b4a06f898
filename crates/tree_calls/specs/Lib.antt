pub mod Callers
pub mod Shown
