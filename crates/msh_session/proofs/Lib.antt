pub mod Calls
pub mod Commands
pub mod ExitLists
pub mod ExitSteps
pub mod Heads
pub mod LastByte
pub mod Runs
pub mod Stages
