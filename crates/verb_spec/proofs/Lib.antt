pub mod Fitting
pub mod Making
pub mod TaskVerbs
pub mod TreeVerbs
pub mod Verbs
