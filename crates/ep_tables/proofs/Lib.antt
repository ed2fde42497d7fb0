pub mod Lists
pub mod Taken
pub mod Pasts
pub mod Found
pub mod Slots
pub mod Somewhere
mod Judging
pub mod Makes
pub mod Items
pub mod Seats
pub mod Places
pub mod PresentLists
pub mod Ties
pub mod TiedComings
pub mod Opened
mod Near
mod Falling
pub mod Turning
pub mod Telling
mod Ready
