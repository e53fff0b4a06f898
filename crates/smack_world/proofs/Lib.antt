pub mod Callers
pub mod Renewing
pub mod Standing
