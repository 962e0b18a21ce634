pub mod FitPlans
pub mod SmallLevels
pub mod Owning
pub mod AllPieces
