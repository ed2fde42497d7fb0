pub mod Listed
pub mod OneEvent
