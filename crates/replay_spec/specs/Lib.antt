pub mod Calls
pub mod Acts
pub mod Replays
pub mod Plain
pub mod Laws
