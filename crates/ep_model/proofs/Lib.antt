pub mod Admitted
pub mod Ascending
mod Counted
pub mod Due
pub mod Finished
mod InOrder
pub mod Lists
pub mod Numbers
pub mod Objections
pub mod Others
pub mod Sessions
mod Spent
pub mod Tally
pub mod Told
