pub mod Parts
pub mod Separators
pub mod Slices
pub mod RuleAnswers
pub mod LeftWords
pub mod LabelAnswers
pub mod Counted
pub mod JudgedWords
