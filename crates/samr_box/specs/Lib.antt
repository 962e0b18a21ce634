pub mod Vector
pub mod Corners
pub mod Ratios
pub mod Space
pub mod Orders
pub mod Lists
