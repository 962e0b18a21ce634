pub mod Fills
pub mod Plans
pub mod Ready
