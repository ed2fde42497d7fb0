pub mod Counting
pub mod Ids
pub mod Scattered
pub mod Took
