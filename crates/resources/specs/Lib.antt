pub mod Files
pub mod Plots
