-- The definitions that the contracts cite: the numbers in which state and result stand, and the start of numbers that may be no settings
-- (`Words`). `Theorem` is the client's claims over the exports.
pub mod Words
pub mod Theorem
