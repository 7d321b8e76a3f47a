-- The definitions that the contracts cite: the places of the table store, the nonces that it remembers, and the Targets of the open ids.
pub mod Places
pub mod Nonces
pub mod Targets
