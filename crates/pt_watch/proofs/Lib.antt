pub mod Few
pub mod Telling
pub mod Ending
