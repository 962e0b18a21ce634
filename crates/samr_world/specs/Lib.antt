pub mod World
pub mod Events
pub mod Weight
pub mod Plays
pub mod Traffic
