pub mod FolderKeeps
pub mod Leaving
pub mod MountKeeps
pub mod WordCounts
