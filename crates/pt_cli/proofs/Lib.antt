pub mod Causes
pub mod Nothing
pub mod Tracing
pub mod Peers
