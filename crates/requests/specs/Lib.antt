pub mod Surveys
pub mod Judging
