pub mod InputLemmas
pub mod KnownLemmas
pub mod LineReaderLemmas
pub mod ScriptLemmas
