pub mod Flat
pub mod Keys
pub mod Marks
pub mod Steps
pub mod Well
