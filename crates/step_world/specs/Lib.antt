pub mod Taking
pub mod WorldView
