pub mod FolderTalks
pub mod MountTalks
