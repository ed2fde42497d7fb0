pub mod Sameness
pub mod Fitting
pub mod Units
