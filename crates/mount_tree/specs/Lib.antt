pub mod MountList
