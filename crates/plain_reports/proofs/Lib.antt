pub mod Counts
pub mod HolderCounts
pub mod Inserts
