pub mod Counted
pub mod Under
pub mod Rooms
pub mod Told
pub mod Apart
