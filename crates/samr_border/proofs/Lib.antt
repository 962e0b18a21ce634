pub mod Remainders
pub mod TurnLaws
pub mod ImageCells
