pub mod DefSteps
pub mod Definitions
pub mod FieldSteps
pub mod Forests
pub mod Payloads
pub mod PutFields
pub mod ReadBack
pub mod Spelled
