-- The definitions that the contracts cite: what C is told of places, answers and challenges.
pub mod Crossing
