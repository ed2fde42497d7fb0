pub mod Less
pub mod Batches
pub mod Chains
