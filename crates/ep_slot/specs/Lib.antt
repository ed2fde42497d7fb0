-- to be believed
pub mod Chain
pub mod Slot
pub mod Hand
pub mod Asked
-- what private fields stand for
pub mod Held
