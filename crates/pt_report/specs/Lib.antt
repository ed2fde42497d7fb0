-- to be believed
pub mod Keys
pub mod Order
pub mod Report
pub mod Found
pub mod Errors
pub mod Shares
pub mod Command
-- what private fields stand for
pub mod state
