-- What a receiver files, in the order in which the files build on one another: the steps of a filing, the log as entries and as bytes, names, the
-- checks of passwords over all connections, and the claims.
pub mod Plan
pub mod Entries
pub mod Frame
pub mod Reading
pub mod Kinds
pub mod Contents
pub mod ReadBack
pub mod FileFrame
pub mod Names
pub mod Lines
pub mod Paths
pub mod Users
pub mod Note
pub mod Cases
pub mod Conf
pub mod Tries
pub mod Claims
