pub mod Passing
pub mod Running
pub mod Witnesses
pub mod CellSteps
pub mod DeviceSteps
pub mod Rows
