pub mod Counts
pub mod Events
pub mod Read
pub mod Shows
pub mod Stacks
pub mod Taken
