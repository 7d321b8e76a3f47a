-- What the host's types mean: the source's settings, and the numbers of ends, of refusals and of what the engine waits for.
pub mod Settings
pub mod Numbers
