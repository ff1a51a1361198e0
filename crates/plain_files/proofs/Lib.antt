pub mod EntryLemmas
pub mod MovingLemmas
pub mod PlaceLemmas
pub mod StepLemmas
