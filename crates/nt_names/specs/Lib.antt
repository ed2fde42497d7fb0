pub mod Told
pub mod state
