pub mod SelfRules
pub mod Limits
