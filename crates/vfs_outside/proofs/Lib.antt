pub mod MemBlockLemmas
pub mod NameLemmas
pub mod SoundLemmas
pub mod VolumeLemmas
