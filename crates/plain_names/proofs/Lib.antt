pub mod Filters
pub mod Made
pub mod Moves
