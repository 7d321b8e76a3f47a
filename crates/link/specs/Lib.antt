-- A client and a server over a reliable stream (`Link`), what a run of both tells (`Told`), what is claimed of a Put and of a Get (`Claims`,
-- `PutMore`, `GetMore`), the same over the contracts of both ends (`Contracts`), and what a server's host may write into its packet store
-- (`HostWrites`), in the order in which they build on one another.
pub mod Link
pub mod Told
pub mod Claims
pub mod PutMore
pub mod ContractClaims
pub mod GetMore
pub mod HostWrites
