pub mod Behind
pub mod Keeping
pub mod Leaving
pub mod Mounted
pub mod Scripts
