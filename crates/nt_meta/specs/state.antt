pub mod Cursor
pub mod Fields
