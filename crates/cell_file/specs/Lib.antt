pub mod Moves
pub mod CellFile
pub mod Parts
