-- The definitions that the contracts cite: what stands at a place of the log, what a frame does to the journal and to what is known, what is said
-- of the last record, how its files are compared, and the verdict on it.
pub mod Place
pub mod Feed
pub mod Waiting
pub mod Taken
pub mod Compare
pub mod Verdict
pub mod Right
pub mod Whole
