pub mod EntryLemmas
pub mod KeptTables
