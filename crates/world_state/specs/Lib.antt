pub mod Seen
pub mod Judging
