pub mod Steps
pub mod Ranks
pub mod KeptLaws
pub mod FirstPatches
pub mod Covering
