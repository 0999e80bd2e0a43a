pub mod Judged
mod Told
