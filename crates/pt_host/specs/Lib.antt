pub mod Server
pub mod Ending
