-- The theorem on a run of a receiver: the word of the engine on a password; what is filed and logged; what the log's bytes tell; turns as a run; the
-- bytes of a packet that has begun, for the journal and in the packet store; an offer of bytes; the log of some turns; sessions; that the word on a
-- reply goes.
pub mod Password
pub mod Files
pub mod Tells
pub mod Turned
pub mod Begun
pub mod Framing
pub mod Offered
pub mod Joined
pub mod Sessions
pub mod SentGoes
