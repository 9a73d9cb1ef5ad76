pub mod Operands
pub mod Judged
