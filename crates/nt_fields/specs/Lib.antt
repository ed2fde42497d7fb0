-- to be believed
pub mod Kinds
pub mod Values
-- what taking answers
pub mod Taking
