-- Theorems over the definitions: filing and its outcomes; the log and the journal; packets in pieces; the log as bytes, one frame in a
-- store, and the entries that its
-- frames stand for; letters, and the checks over all connections.
pub mod Filed
pub mod Logged
pub mod Pieces
pub mod Framed
pub mod InStore
pub mod Told
pub mod Contents
pub mod FileRows
pub mod Named
pub mod Lined
pub mod Placed
pub mod NoteText
pub mod Configured
pub mod ConfCases
pub mod Letters
pub mod Tried
