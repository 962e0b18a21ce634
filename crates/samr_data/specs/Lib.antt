pub mod Places
pub mod Values
pub mod Grids
pub mod ParcelOrder
pub mod Laws
