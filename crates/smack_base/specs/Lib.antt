pub mod Labels
pub mod Modes
pub mod Paths
pub mod PathNames
