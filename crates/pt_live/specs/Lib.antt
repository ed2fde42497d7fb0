-- to be believed
pub mod Trace
-- what private fields and functions say
pub mod state
