pub mod Working
pub mod ForkLines
pub mod Orders
pub mod Closing
pub mod Stopping
pub mod WaitPlaces
