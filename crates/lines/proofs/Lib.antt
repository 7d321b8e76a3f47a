-- The lemmas that proofs of the programs cite (`Filled`), and those of this crate: `Places` on where bytes, pieces and lines stand and on numbers,
-- `Copies` on copies within a store and words in hexadecimal, `Texts` on what is put into an output, `Hexed` on
-- a text in hexadecimal, `Shown` on bytes that came from elsewhere.
pub mod Filled
pub mod Places
pub mod Copies
pub mod Texts
pub mod Hexed
pub mod Shown
