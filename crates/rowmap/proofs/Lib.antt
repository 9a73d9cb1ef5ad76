pub mod Jobs
pub mod Prints
