-- The lemmas that proofs of this crate cite: known tests, headers by their places, packets as they are read, ids that are closed, what the
-- calls find, how state and journal stand to one another, each entry, and the claims on a log.
pub mod Picks
pub mod Found
pub mod Packets
pub mod Closes
pub mod Calls
pub mod Coupling
pub mod Steps
pub mod Arrivals
pub mod Replies
pub mod Told
