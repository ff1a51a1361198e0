pub mod Advancing
pub mod CopyKeeps
pub mod TextKeeps
pub mod WordCounts
