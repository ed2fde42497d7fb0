pub mod Back
pub mod Finding
