pub mod FirstValues
pub mod RenewLaws
pub mod CoarsenLaws
