-- The definitions that the contracts cite: the numbers in which state and result stand. `Theorem` is the records theorem over the exports.
pub mod Words
pub mod Theorem
