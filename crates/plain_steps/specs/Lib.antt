pub mod Needs
pub mod Opening
pub mod Starting
