pub mod Bits
pub mod Row
pub mod AtRest
