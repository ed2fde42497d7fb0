pub mod Cells
pub mod OneRow
pub mod Making
pub mod Changing
pub mod Keeping
