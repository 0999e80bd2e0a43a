pub mod Faults
pub mod Header
pub mod Options
pub mod Encoding
pub mod Message
pub mod Reading
pub mod Writing
pub mod Texts
