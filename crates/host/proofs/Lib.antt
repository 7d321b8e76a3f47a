-- `Feeding`: the two calls by which the peer's bytes are offered, and why what is left of them lies in the input store.
pub mod Feeding
