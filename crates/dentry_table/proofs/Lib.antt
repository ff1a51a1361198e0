pub mod Belows
pub mod Counts
pub mod Entering
pub mod Moving
pub mod Rooms
pub mod Tidiness
