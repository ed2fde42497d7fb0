pub mod Heard
pub mod Listening
pub mod Shares
