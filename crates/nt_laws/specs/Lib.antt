pub mod Bare
pub mod Faithful
pub mod Reading
