pub mod RefusedRecords
pub mod UnfitRecords
pub mod Interleaved
