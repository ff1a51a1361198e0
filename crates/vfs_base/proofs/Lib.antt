pub mod PathMaps
pub mod PathOrder
pub mod PrintedAlone
