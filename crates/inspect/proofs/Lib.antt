pub mod Composed
pub mod Feeding
pub mod Fronts
pub mod Listing
pub mod Pieces
pub mod Reports
pub mod Rewritten
pub mod Splitting
