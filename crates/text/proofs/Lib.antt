-- The lemmas that several proofs cite, and the laws of text: what is written reads back.
pub mod Widths
pub mod Pairs
pub mod Sequences
pub mod TextRoom
pub mod Cut
pub mod TextSizes
pub mod TextWhole
pub mod Back16
pub mod Back8
pub mod RoundTrips
pub mod TextRows
