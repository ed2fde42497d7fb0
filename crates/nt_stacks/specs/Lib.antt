-- to be believed
pub mod Stacks
-- what private fields stand for
pub mod Interning
