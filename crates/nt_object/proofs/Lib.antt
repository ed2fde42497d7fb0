pub mod Fronts
pub mod Named
pub mod PutPieces
pub mod Sizes
