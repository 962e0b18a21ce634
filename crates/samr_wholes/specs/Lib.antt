pub mod Wholes
pub mod Bridges
pub mod Laws
pub mod Passing
