pub mod Faults
pub mod Source
pub mod Sink
pub mod Seen
pub mod Calls
pub mod Memory
pub mod Standard
pub mod Reading
