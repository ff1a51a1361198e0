pub mod FitsReply
pub mod ShownNames
pub mod State
