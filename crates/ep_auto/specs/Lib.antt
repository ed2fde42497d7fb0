-- What a start-up text means.
pub mod Fields
pub mod StartUp
