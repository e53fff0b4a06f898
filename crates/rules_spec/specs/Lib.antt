pub mod Versions
pub mod Rulings
pub mod AskedModes
pub mod Cases
pub mod Creds
pub mod Verdicts
