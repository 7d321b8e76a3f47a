-- The lemmas that proofs of this crate and of the crates above cite.
pub mod Below
pub mod Spans
