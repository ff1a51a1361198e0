pub mod Changes
pub mod Contents
pub mod Puts
pub mod Rows
pub mod WorldAnswer
