pub mod Leaving
pub mod Mounting
pub mod Resting
pub mod Unmounting
