-- The advertise message.
pub mod Advert
-- The calls of a tool as a dock.
pub mod Calls
pub mod Dock
pub mod Named
pub mod Received
