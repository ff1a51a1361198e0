pub mod Calls
pub mod Places
pub mod Playing
pub mod PostedLines
pub mod SessionTexts
pub mod Staging
pub mod TakenEntries
