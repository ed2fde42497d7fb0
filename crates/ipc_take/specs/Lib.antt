-- Which bytes are a message's own.
pub mod Own
-- What a link gave.
pub mod Given
