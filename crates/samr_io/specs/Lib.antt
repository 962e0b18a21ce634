pub mod Faults
pub mod Transfers
pub mod MemSource
pub mod MemSink
