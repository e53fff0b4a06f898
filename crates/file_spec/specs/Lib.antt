pub mod Writes
pub mod Files
