pub mod Starts
pub mod Nested
pub mod Worked
pub mod Laws
pub mod CutLevels
