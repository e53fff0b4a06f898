pub mod Orders
pub mod Rooms
