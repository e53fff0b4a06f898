pub mod KnownLabels
pub mod ReadValues
pub mod ReadCalls
