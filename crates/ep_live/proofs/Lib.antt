pub mod Bits
pub mod Pushing
pub mod Halves
pub mod Columns
pub mod Batches
pub mod Standing
pub mod Answering
pub mod Own
