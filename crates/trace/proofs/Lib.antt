pub mod Checks
pub mod Weighing
