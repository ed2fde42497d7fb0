-- to be believed
pub mod Words
pub mod Errors
pub mod Ends
pub mod Traced
pub mod Program
