pub mod Items
pub mod Borne
pub mod Steps
pub mod Methods
pub mod Finish
