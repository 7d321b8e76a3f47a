-- The design level between the model and the code, by the same file names: how the model's steps come about when decisions are made without
-- the stores and then carried out. The files of proofs/ say that each comes to the model's definition.
pub mod Guard
pub mod Close
pub mod Step
pub mod Request
pub mod Operation
pub mod Object
pub mod Connect
pub mod Dispatch
