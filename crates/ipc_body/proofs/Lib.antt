pub mod Back
pub mod Lengths
pub mod Placed
pub mod Provided
pub mod Texts
