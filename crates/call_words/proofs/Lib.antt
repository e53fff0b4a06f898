pub mod Numbers
pub mod LongPaths
pub mod Pids
pub mod ReadValues
