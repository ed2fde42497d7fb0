-- to be believed
pub mod Record
pub mod Places
pub mod Lending
-- what private fields stand for
pub mod Held
