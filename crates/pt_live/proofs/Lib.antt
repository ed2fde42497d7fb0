pub mod Opening
pub mod Firsts
pub mod Ending
pub mod Long
pub mod Answering
