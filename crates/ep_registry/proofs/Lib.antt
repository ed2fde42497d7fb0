pub mod Numbered
pub mod Tied
pub mod Calls
pub mod Leaves
pub mod Decides
pub mod Things
pub mod Slots
pub mod Fills
