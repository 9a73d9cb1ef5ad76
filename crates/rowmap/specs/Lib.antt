pub mod Job
pub mod Printed
