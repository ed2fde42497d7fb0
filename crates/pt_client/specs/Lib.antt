-- What the words ask for, what is asked of the peer, and what is printed.
pub mod Words
pub mod Lines
pub mod Answers
pub mod Greeting
