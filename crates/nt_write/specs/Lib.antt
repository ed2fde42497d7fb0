-- to be believed
pub mod Layout
pub mod Canonical
pub mod Words
pub mod Trace
pub mod Writable
pub mod Writer
pub mod Sinks
pub mod Value
pub mod Vectors
-- what private fields stand for, and what private functions make of them
pub mod Arriving
pub mod Writing
pub mod Flushing
pub mod Adding
