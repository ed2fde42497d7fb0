pub mod Load
pub mod Lives
pub mod Marks
pub mod Rows
pub mod Numbers
pub mod Ends
