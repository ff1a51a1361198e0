pub mod Exit
pub mod FdFault
