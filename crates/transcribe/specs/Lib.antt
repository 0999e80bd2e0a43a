pub mod Theorems
pub mod Transcribing
