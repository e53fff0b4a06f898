pub mod Standing
pub mod Changes
pub mod Keeping
pub mod Points
pub mod Worked
