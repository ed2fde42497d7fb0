-- What the private fields of the machine stand for.
pub mod Whole
pub mod Works
