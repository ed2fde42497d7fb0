pub mod Masks
pub mod Resting
pub mod Numbered
pub mod Admitted
