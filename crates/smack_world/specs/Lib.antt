pub mod Renewing
pub mod Stepping
