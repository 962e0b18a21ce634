pub mod PassStages
pub mod Moves
pub mod Bridging
pub mod PassedOn
pub mod CoverRooms
