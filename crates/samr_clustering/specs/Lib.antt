pub mod Rounds
pub mod Fronts
pub mod NodeLaws
pub mod RoundLaws
