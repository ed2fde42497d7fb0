pub mod Few
pub mod Tool
