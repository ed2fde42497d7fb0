-- to be believed
pub mod Codes
pub mod Shapes
pub mod Defining
pub mod Counting
pub mod Outgoing
pub mod Recording
pub mod Answering
-- what private fields stand for
pub mod Owning
pub mod Listed
