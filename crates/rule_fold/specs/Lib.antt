pub mod Index
pub mod Absorbing
