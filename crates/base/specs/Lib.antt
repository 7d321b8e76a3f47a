-- The definitions that every layer shares: choosing by a test, numbers as bytes, a part of a list, and the store that is too short.
pub mod Pick
pub mod Bytes
pub mod Place
pub mod Store
