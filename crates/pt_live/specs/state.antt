pub mod Run
pub mod Open
pub mod Ended
