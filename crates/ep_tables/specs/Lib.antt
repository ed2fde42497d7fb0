pub mod Falling
pub mod Tables
pub mod Can
pub mod Judged
pub mod Made
pub mod Tied
