-- The model, by the same file names as the engine, in the order in which they build on one another: what a step leads to (`Step`), the last
-- packet read again (`Request`), operations, objects and Connect, a packet's way (`Dispatch`), connections that are closed together
-- (`Close`), refusals (`Guard`) and the calls (`Calls`).
-- Then what a host sees of a call, and which calls are due to be refused (`Refusals`), lists of calls (`Runs`), the sizes of replies
-- (`Replies`), the records theorem (`Theorem`), the same from the contract of a start (`Contracts`), the count of wrong passwords
-- (`EightWrong`), the replies to a Get (`ObjectSent`), the proved cases (`Cases`), that passwords leave no trace (`Secrecy`), which ids are
-- left when connections are closed together (`ClosedTogether`), the Targets that requests name (`Targets`), when an operation is open
-- (`OpenOperation`), and what the host may write into the packet store itself (`HostWrites`).
pub mod Step
pub mod Request
pub mod Operation
pub mod Object
pub mod Connect
pub mod Dispatch
pub mod Close
pub mod Guard
pub mod Calls
pub mod Refusals
pub mod Runs
pub mod Replies
pub mod Theorem
pub mod ContractClaims
pub mod EightWrong
pub mod ObjectSent
pub mod Cases
pub mod Secrecy
pub mod ClosedTogether
pub mod Targets
pub mod OpenOperation
pub mod HostWrites
