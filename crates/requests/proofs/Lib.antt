pub mod Noting
pub mod Rules
pub mod Tokens
