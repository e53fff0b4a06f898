pub mod Lists
pub mod Batches
pub mod Machines
pub mod Core
pub mod Plays
pub mod Seats
