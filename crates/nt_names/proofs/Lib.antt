pub mod Events
pub mod Heads
