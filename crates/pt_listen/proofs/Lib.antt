pub mod Halves
pub mod Opening
pub mod Telling
pub mod Ending
