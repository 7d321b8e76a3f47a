-- What the calls hand over, defined without the engine, in the order in which the files build on one another.
pub mod Record
pub mod Ids
pub mod Calls
pub mod Checks
pub mod Journal
pub mod PutForm
pub mod Srm
pub mod Claim
pub mod Naming
