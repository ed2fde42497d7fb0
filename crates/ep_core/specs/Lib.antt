pub mod Machine
pub mod Streams
pub mod Writes
pub mod state
