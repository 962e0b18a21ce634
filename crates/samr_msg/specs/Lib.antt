pub mod Runs
pub mod Places
pub mod PassStops
pub mod StepStops
pub mod WholeRun
