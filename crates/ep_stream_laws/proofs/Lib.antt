pub mod Lists
pub mod Pasts
pub mod Steps
pub mod Stays
pub mod Ends
