-- to be believed
pub mod Line
pub mod Texts
pub mod Json
pub mod Chromium
pub mod Page
pub mod Forms
pub mod Around
-- what putting answers
pub mod Appends
pub mod state
