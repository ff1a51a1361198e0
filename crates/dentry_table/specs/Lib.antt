pub mod DentryTable
pub mod Tidy
