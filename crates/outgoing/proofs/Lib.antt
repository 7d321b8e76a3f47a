-- The lemmas that proofs of this crate and of the engine cite: the fill of a packet, and what its packets hold to; and the packets of an object
-- as one list, and at each moment of sending those that are still to go (`Sender`); what is put into a store between others, walks over headers,
-- and room for both (`Between`, `Walking`, `Rooms`).
pub mod Sending
pub mod Fitting
pub mod Sent
pub mod Holding
pub mod BodyRuns
pub mod ObjectRuns
pub mod Sender
pub mod ObjectExamples
pub mod Sized
pub mod Between
pub mod Walking
pub mod Rooms
pub mod QueueLaws
