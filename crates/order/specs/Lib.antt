pub mod Tables
pub mod Visit
pub mod Wanted
pub mod Plan
