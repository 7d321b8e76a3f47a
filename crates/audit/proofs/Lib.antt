-- Lemmas that several proofs share: where two lists differ, and what a log stands for, frame by frame.
pub mod Differ
pub mod Right
pub mod Whole
