pub mod Changes
pub mod Entered
pub mod Gathered
pub mod Layout
pub mod Listed
