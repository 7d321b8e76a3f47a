-- The lemmas that several proofs cite, in the order in which they build on one another: comparing lists, a block, bytes laid into a target,
-- all blocks of a body, all blocks of an input, and the claims.
pub mod Compare
pub mod OneBlock
pub mod Laid
pub mod AllWritten
pub mod AllRead
pub mod OneSequence
