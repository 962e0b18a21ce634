pub mod Seats
pub mod Rules
pub mod Zips
pub mod EndLemmas
pub mod Lending
pub mod Returning
pub mod Journals
pub mod OddLemmas
