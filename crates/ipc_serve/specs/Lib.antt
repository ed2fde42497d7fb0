pub mod Decision
pub mod Info
