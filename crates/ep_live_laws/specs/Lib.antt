pub mod Calls
pub mod Streams
pub mod Traced
pub mod Tracing
pub mod TwoThreads
