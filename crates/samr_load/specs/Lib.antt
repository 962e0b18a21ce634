pub mod Pieces
pub mod Taking
pub mod Ascent
pub mod Descent
pub mod Balanced
pub mod Laws
pub mod LevelLaws
