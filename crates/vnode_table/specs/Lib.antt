pub mod Layout
pub mod SlotTable
