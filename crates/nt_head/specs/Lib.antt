-- to be believed
pub mod Head
pub mod Fewest
pub mod Reading
-- what one step answers
pub mod Places
