pub mod Events
pub mod Faults
pub mod Numbers
pub mod state
