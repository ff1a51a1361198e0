pub mod CopyTalks
pub mod TextTalks
