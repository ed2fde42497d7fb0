pub mod Program
pub mod WithRundown
