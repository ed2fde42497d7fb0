pub mod Load
pub mod Lists
pub mod Whole
