-- What is decided, and which call a decision comes to; what a run of a receiver is, what is noted of each call and what is claimed of both; what is
-- noted of a call by its decision; turns; what the bytes of the log tell.
pub mod Answers
pub mod Received
pub mod Notes
pub mod Turns
pub mod Tells
