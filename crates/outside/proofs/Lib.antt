pub mod Rising
pub mod Taking
pub mod Appending
pub mod Known
