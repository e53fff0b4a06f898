pub mod Histories
pub mod Replays
pub mod Indexes
pub mod Growth
pub mod Tasks
pub mod Turns
pub mod Forks
pub mod Answers
