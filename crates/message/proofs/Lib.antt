pub mod Opened
pub mod Walks
pub mod Heads
pub mod Laid
pub mod Printed
