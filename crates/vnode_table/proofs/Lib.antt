pub mod FreeFiles
pub mod Recounts
pub mod SoundSlots
