-- What of serving files equations can say: a store that is filled from its front; names; paths; what errors mean.
pub mod Store
pub mod Name
pub mod Path
pub mod Errors
