pub mod Answers
pub mod Lent
pub mod Names
pub mod Objects
pub mod Reading
pub mod Stages
pub mod Telling
pub mod state
