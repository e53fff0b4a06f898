pub mod Paths
pub mod Walking
