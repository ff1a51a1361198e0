pub mod IsFault
pub mod NodeMap
