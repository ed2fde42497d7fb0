pub mod Ends
pub mod Known
pub mod Listed
pub mod Read
