pub mod Ranges
pub mod BucketChanges
pub mod Counting
pub mod CellLists
pub mod Edges
pub mod PlaceLists
pub mod FinderLaws
