pub mod Rules
pub mod Walks
pub mod Kept
pub mod Laws
pub mod Worked
