-- to be believed
pub mod Lines
pub mod Found
pub mod Command
pub mod Words
-- what private fields stand for
pub mod state
