pub mod Places
pub mod NamesOfPaths
pub mod LongestPath
pub mod ModeLetters
pub mod HeldModes
