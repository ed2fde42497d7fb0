pub mod World
pub mod Fates
pub mod Writers
pub mod Ran
pub mod Table
pub mod Roles
pub mod Streamers
pub mod Serving
