pub mod Above
pub mod Children
pub mod Indexed
pub mod Sound
pub mod Stands
pub mod Written
