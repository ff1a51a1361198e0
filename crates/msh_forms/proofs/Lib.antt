pub mod LastByte
pub mod CommaParts
pub mod Bits
