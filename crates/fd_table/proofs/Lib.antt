pub mod Exits
pub mod FirstPlace
pub mod KeptTable
