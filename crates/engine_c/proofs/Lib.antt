-- What the proofs cite: an end and a refusal are given back by their numbers (`Back`), and a start with its admission is the start of the
-- numbers (`Starting`). `Exports` is the records theorem over the exported calls, and `Tied` states each export's contract as that theorem
-- needs it.
pub mod Back
pub mod Starting
pub mod Exports
pub mod Tied
