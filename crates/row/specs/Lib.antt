pub mod Decoded
pub mod Answers
pub mod Runs
