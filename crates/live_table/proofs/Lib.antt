pub mod Lists
pub mod Cuts
pub mod RowSteps
pub mod NoticeSteps
pub mod TurnSteps
pub mod AfterSteps
pub mod Opens
pub mod Closes
