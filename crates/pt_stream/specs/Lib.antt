-- to be believed
pub mod Setting
pub mod State
pub mod End
-- what private fields say
pub mod Kept
