pub mod Admitting
pub mod Arriving
pub mod Keeping
pub mod Sessions
pub mod Walks
