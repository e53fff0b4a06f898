pub mod Places
pub mod Fronts
pub mod Told
pub mod PrintedBytes
pub mod Numbers
pub mod Lines
pub mod Printed
