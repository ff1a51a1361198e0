pub mod FileKeeps
pub mod FileWords
pub mod MappingKeeps
pub mod MappingWords
