-- The definitions that the contracts and the theorems of the walk cite.
pub mod Walk
