pub mod Decisions
pub mod Moves
pub mod Turns
pub mod Trios
pub mod WholeRuns
