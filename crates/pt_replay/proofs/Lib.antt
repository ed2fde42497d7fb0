pub mod Answering
pub mod Definitions
pub mod OneMore
pub mod OutcomeLaws
pub mod ReadSoFar
pub mod TextLines
