pub mod Fronts
pub mod Searches
pub mod Records
pub mod Plots
pub mod Numbers
pub mod Makers
