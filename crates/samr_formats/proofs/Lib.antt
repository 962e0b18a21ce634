pub mod Loops
pub mod Fitting
pub mod Wholes
