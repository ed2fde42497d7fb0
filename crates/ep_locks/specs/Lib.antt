-- to be believed
pub mod Locks
-- what private fields stand for
pub mod Row
