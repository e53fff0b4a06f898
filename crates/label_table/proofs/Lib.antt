pub mod Places
pub mod LabelTables
