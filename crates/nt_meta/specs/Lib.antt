pub mod Meta
pub mod Reading
pub mod Taking
pub mod state
