pub mod Names
pub mod Ends
pub mod Views
pub mod Inbox
pub mod Queue
pub mod Settled
pub mod Kept
