pub mod Ahead
pub mod Driven
pub mod Step
pub mod Slots
pub mod Standing
pub mod Runs
