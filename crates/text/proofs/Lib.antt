pub mod Digits
pub mod Pairs
pub mod Trips
pub mod Keeping
