pub mod StoredSet
pub mod AddressSpace
pub mod Resident
pub mod Layout
pub mod Framed
