pub mod Same
pub mod MadeCalls
pub mod Forms
pub mod Laws
