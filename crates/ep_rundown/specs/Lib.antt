pub mod Rundown
pub mod Rows
