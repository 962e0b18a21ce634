pub mod FillLaws
pub mod FilledFrom
pub mod CountLaws
