-- What words are as texts, and what `clap` is asked.
pub mod Words
pub mod Target
pub mod Session
pub mod Options
pub mod Trace
pub mod TraceTexts
pub mod Run
pub mod RunTexts
pub mod Commands
pub mod Matches
