pub mod Laid
pub mod Read
pub mod Holding
pub mod Placed
