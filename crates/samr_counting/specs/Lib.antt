pub mod Rounds
pub mod Cutting
