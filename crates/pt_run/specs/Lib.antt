-- to be believed
pub mod Plans
pub mod Words
pub mod Summary
pub mod Command
pub mod Reverse
