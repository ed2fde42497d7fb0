pub mod Begins
pub mod Feeding
pub mod Fuel
pub mod Objects
pub mod Pieces
pub mod Steps
pub mod Unit
