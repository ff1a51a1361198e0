pub mod Copies
pub mod FileReplies
pub mod KeptSizes
pub mod Marks
pub mod RomLists
pub mod RomTexts
pub mod Started
pub mod WorldSteps
