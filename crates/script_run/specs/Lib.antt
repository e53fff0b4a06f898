pub mod Stages
pub mod Shared
pub mod Closings
pub mod Stops
pub mod Waits
