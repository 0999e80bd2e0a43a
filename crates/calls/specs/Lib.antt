pub mod Numbers
pub mod Judging
pub mod Reports
pub mod Model
