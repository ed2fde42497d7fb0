pub mod Fronts
pub mod Heads
pub mod PutHeads
pub mod ReadTo
pub mod ShortVars
pub mod Steps
pub mod Usual
