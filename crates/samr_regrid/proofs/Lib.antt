pub mod PartsOfLevels
pub mod PassesAbove
