-- to be believed
pub mod Object
pub mod Stream
pub mod Reading
-- what private functions answer
pub mod Making
