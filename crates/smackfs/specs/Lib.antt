pub mod Gives
pub mod Named
pub mod Left
