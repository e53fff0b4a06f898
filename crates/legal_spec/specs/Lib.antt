pub mod Lines
pub mod Calls
pub mod Entries
pub mod Legal
pub mod Fits
pub mod Laws
