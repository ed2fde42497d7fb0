pub mod Objects
pub mod Reads
pub mod Units
