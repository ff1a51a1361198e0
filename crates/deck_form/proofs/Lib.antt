pub mod DraftLemmas
pub mod LineLemmas
pub mod NumberLemmas
pub mod PartLemmas
pub mod RomLemmas
pub mod SoakLemmas
