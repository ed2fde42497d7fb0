pub mod Cells
pub mod Shows
pub mod Told
pub mod Rows
pub mod Writes
pub mod Outside
