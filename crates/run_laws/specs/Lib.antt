pub mod Laws
pub mod WorkedLoads
