pub mod FreeNumbers
pub mod Items
pub mod KeptMounts
