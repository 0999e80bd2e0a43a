pub mod Examples
pub mod Sessions
