pub mod Ranks
pub mod Asking
pub mod Standing
pub mod Making
pub mod Books
pub mod Above
