-- What the programs over the engine know of their input and of their host.
pub mod Answers
pub mod Rest
pub mod Feed
pub mod Names
