-- The process, and who decides.
pub mod Process
pub mod Deciding
-- How one connection ends, and what all of them are told.
pub mod Connection
pub mod Told
-- The steps of one connection.
pub mod Heard
pub mod Reply
pub mod Answered
-- The link of a session.
pub mod Served
-- A session that did not start.
pub mod Unstarted
