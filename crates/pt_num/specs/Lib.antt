pub mod Begins
pub mod Fields
pub mod Numbers
pub mod Pieces
pub mod Steps
pub mod Taking
pub mod Texts
