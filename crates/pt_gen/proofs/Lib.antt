pub mod Made
pub mod Short
pub mod Stages
pub mod Steps
pub mod Sums
pub mod Turns
pub mod Whole
