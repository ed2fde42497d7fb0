-- to be believed
pub mod Text
pub mod Schedule
pub mod Replay
pub mod Errors
pub mod Command
-- what private fields stand for
pub mod Reading
pub mod Machines
pub mod Outcomes
