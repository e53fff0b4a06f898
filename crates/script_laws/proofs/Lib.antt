pub mod Items
pub mod Grammar
pub mod Worked
pub mod Slices
