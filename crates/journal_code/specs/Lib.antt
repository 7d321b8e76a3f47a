-- The definitions that the contracts cite: the state, what is read of a packet, which way it goes, and what each entry does.
pub mod State
pub mod Heading
pub mod Route
pub mod Receive
pub mod Answer
pub mod Run
pub mod Claims
