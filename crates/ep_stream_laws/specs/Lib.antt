pub mod Kept
pub mod Makers
