pub mod Covers
pub mod Slabs
pub mod Pieces
