-- The lemmas that proofs of this crate and of the crates above cite: one number in front of a part, and the nonces that are remembered; then
-- numbers stored one by one, the columns beside the ids, and a Target by its bytes and its place.
pub mod Pushing
pub mod Remembering
pub mod Stored
pub mod Columns
pub mod Naming
