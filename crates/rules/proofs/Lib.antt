pub mod Laws
pub mod Answers
pub mod Lists
pub mod Reading
pub mod SequenceReading
pub mod Bench
pub mod Cases
