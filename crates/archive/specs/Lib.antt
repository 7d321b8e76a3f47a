-- The definitions that the contracts cite: a block, all blocks of a body, all blocks of an input. And the claims about them.
pub mod Block
pub mod Writing
pub mod Reading
pub mod Claims
pub mod Vectors
