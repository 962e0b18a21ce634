pub mod ShareLaws
pub mod HandLaws
