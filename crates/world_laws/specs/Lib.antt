pub mod Laws
pub mod WorkedCalls
