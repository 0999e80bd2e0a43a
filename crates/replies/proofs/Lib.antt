pub mod Fewest
pub mod Sending
pub mod Sizes
