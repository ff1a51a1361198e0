pub mod ShownNames
pub mod WordCounts
