pub mod Manifest
pub mod RomTree
