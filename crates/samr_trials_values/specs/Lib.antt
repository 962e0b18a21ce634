pub mod Renewals
pub mod Coarsenings
