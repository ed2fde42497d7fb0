-- to be believed
pub mod Ends
pub mod Input
pub mod Says
pub mod Answers
