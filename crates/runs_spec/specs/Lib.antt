pub mod Scripts
pub mod Deeds
pub mod Runs
pub mod Meetings
pub mod Stops
pub mod Orders
