-- The definitions that the contracts cite: replies, what Connect and Disconnect change, and the reply to a Connect.
pub mod Reply
pub mod Peer
pub mod ConnectReply
pub mod Pieces
pub mod Request
