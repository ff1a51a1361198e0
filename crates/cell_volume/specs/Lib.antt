pub mod Below
pub mod Cells
pub mod MountedVolume
