-- to be believed
pub mod Tied
pub mod Granted
pub mod Sessions
-- what private fields stand for
pub mod Resting
pub mod Calls
