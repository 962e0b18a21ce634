pub mod Counts
pub mod Fields
pub mod Line
pub mod Decide
pub mod Laws
