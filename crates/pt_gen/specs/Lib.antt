-- to be believed
pub mod Words
pub mod Schedule
pub mod Summary
pub mod Command
-- what private fields stand for, and private functions answer
pub mod state
