pub mod Words
pub mod RuleLines
pub mod Files
pub mod Versions
pub mod Decisions
