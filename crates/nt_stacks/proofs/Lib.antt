pub mod Frames
pub mod Ids
pub mod Tables
