pub mod Moving
pub mod Shape
