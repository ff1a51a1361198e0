pub mod MapFault
pub mod Windows
