-- to be believed
pub mod Watched
-- what private fields and functions say
pub mod state
