pub mod Keys
pub mod Links
pub mod Seeking
