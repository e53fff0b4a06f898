pub mod PlainRecords
pub mod LegalRecords
