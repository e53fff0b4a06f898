pub mod Parses
pub mod WorkedScripts
pub mod Slices
