pub mod Telling
pub mod Sides
