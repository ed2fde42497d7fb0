pub mod Rows
pub mod Showing
pub mod Halves
pub mod Resting
pub mod Lives
pub mod Openings
