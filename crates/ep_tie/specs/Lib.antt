-- to be believed
pub mod Tied
-- what private fields stand for
pub mod Seats
