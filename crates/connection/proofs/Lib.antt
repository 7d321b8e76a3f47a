-- The lemmas that proofs of this crate and of the engine cite: open ids and their Targets, replies and their pieces, challenges, and how a peer goes with
-- the journal's standing.
pub mod Open
pub mod Front
pub mod Closing
pub mod Carrying
pub mod Replies
pub mod Challenges
pub mod Nonces
pub mod Putting
pub mod ConnectBytes
pub mod ByNumbers
pub mod Standings
pub mod Openings
pub mod Requests
