pub mod Pieces
pub mod Modify
pub mod Entries
pub mod ModifyRow
pub mod ModifyParts
pub mod Found
pub mod StageLaws
