pub mod Bare
pub mod Cuts
pub mod Infos
pub mod Objects
pub mod Streams
pub mod Told
pub mod Units
