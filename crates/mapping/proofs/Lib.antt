pub mod FirstPlace
pub mod FreeNumbers
pub mod Used
