-- What is said of lists, counts and chains alone.
pub mod Counting
pub mod Filters
pub mod Leaving
pub mod Lists
pub mod Passing
