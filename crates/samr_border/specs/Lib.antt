pub mod Turns
pub mod Images
pub mod Laws
