pub mod Steps
pub mod Covering
pub mod Cutting
pub mod Disjointness
pub mod Chopping
pub mod ChoppedLists
