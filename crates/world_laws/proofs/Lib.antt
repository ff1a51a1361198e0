pub mod lists
pub mod parts
pub mod steps
