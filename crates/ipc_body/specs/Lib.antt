pub mod Answering
pub mod Asked
pub mod Asking
pub mod Read
pub mod Reply
pub mod Request
