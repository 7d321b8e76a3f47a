-- The theorems of the walk.
pub mod Walks
