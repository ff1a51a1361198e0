pub mod Views
pub mod Values
pub mod Takes
pub mod Stamps
pub mod Passes
pub mod Rule
pub mod Moves
