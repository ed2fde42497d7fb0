mod Ascending
mod Balance
pub mod Counted
mod ThreadLines
mod Told
mod Named
mod Numbers
pub mod Placed
pub mod Printed
mod Sessions
pub mod Steps
pub mod Tallies
pub mod Used
pub mod Whole
mod WithRundown
