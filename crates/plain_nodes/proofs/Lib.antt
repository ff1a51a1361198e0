pub mod Contents
pub mod Entries
pub mod FreeRows
pub mod Puts
pub mod Sets
pub mod Walks
