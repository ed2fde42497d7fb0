pub mod Used
pub mod Section
