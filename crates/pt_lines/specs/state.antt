pub mod Ending
pub mod Fields
pub mod Halves
pub mod Held
pub mod Nest
pub mod Opening
pub mod Pieces
pub mod Plain
