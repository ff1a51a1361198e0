pub mod DeviceTable
pub mod Slots
