pub mod Turns
pub mod Tie
