-- The definitions that the contracts cite: Unicode's scalar values, the text of a header, and what the reader promises.
pub mod Unicode
pub mod Text
pub mod Pieces
