pub mod Items
pub mod Recorded
pub mod Kept
pub mod Told
