-- to be believed
pub mod Counts
pub mod Shared
pub mod Deals
-- what private fields stand for
pub mod Free
