pub mod WalkLaws
pub mod Fitting
