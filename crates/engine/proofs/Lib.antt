-- What the proofs of the engine's functions cite: the guard (`Guards`), ids that are closed together (`Closes`), plans and how they are
-- carried out (`Plans`, `Record`), the outgoing object and the start (`Objects`), challenges (`Challenged`), the last packet read again
-- (`LastPacket`), a packet's way (`Routes`, `Ready`, `Arrivals`, `Connects`), what follows a reply (`Turns`), the host's replies and
-- credentials (`Accepts`). `Tied` states the contracts as the model's steps, for the theorem of crates/model.
pub mod Guards
pub mod Closes
pub mod Plans
pub mod Carried
pub mod Objects
pub mod Challenged
pub mod LastPacket
pub mod Routes
pub mod Ready
pub mod Arrivals
pub mod Turns
pub mod Connects
pub mod Accepts
pub mod Tied
