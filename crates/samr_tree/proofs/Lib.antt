pub mod TreeLemmas
pub mod SumLemmas
pub mod TellLemmas
pub mod Totals
pub mod TreeTotals
pub mod Seating
pub mod OnAllLemmas
