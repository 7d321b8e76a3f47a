-- Theorems over the definitions: a store filled from its front, paths and digits in one, errors by their bits.
pub mod Fitted
pub mod Joins
pub mod Errors
pub mod Named
