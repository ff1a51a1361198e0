pub mod Reach
pub mod Standing
