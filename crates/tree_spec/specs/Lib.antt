pub mod Trees
pub mod Listed
pub mod Attributes
pub mod Listings
