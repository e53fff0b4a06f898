pub mod Places
pub mod EmptyTests
pub mod FirstLine
pub mod FirstWord
mod JudgedWords
pub mod WholeLines
pub mod LineSlices
pub mod WordSlices
pub mod MovedPlaces
pub mod Trimmed
pub mod ChangeLine
pub mod GoodFields
pub mod RuleSlices
pub mod LabelSlices
pub mod SubjectSlices
mod CountedLines
mod FirstFeed
