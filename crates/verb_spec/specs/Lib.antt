pub mod Words
pub mod Kinds
pub mod Values
pub mod TaskVerbs
pub mod TreeVerbs
pub mod Verbs
