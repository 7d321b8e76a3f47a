-- What the proofs cite: a result is given back by its numbers (`Back`), and a start with its admission is the start of the numbers
-- (`Starting`). `Exports` is the client's claims over the exported calls, and `Tied` states each export's contract as they need it.
pub mod Back
pub mod Starting
pub mod Exports
pub mod Tied
