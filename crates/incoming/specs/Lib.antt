-- The definitions that the contracts cite: frames, the survey of a packet's headers, and gathering.
pub mod Frame
pub mod Survey
pub mod Noted
pub mod Gather
