pub mod NewBoxes
pub mod OldLevels
pub mod Sides
pub mod Starts
