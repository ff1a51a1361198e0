pub mod FileTalks
pub mod MappingTalks
