-- to be believed
pub mod Sample
-- what private fields stand for
pub mod Shape
pub mod Lending
