pub mod PathFault
