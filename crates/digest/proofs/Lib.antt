-- The lemmas that several proofs cite: a step's rotation, one step more, bytes as numbers, the padded message, and its blocks. Laws that
-- stand for themselves: the two orders of a step's sum, and F of the first round in three operations.
pub mod SumOrder
pub mod Choice
pub mod Rotated
pub mod Steps
pub mod Octets
pub mod Padded
pub mod Blocks
