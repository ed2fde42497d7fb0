pub mod Ending
pub mod Turning
pub mod Ran
pub mod Openings
pub mod Starting
