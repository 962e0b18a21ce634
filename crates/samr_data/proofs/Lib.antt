pub mod PlaceLaws
pub mod Lists
pub mod Slices
pub mod RowCopies
pub mod CellWrites
pub mod Patches
pub mod ParcelOrderLaws
