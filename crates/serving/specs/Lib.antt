pub mod Records
pub mod View
pub mod Sessions
