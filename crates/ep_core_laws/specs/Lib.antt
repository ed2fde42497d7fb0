pub mod Kept
pub mod Changes
pub mod Given
pub mod Rests
pub mod Stands
pub mod Works
pub mod Ends
