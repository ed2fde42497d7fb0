-- to be believed
pub mod Written
pub mod Whole
-- what private fields and functions say
pub mod state
