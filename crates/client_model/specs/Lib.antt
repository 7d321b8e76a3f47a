-- The client's definitions, in the order in which they build on one another: the numbers of ends and refusals, the headers that lead
-- (`Leading`), what a step leads to (`Step`), the packets of a request (`Request`), what a response leads to (`Answer`), refusals (`Guard`)
-- and the calls (`Calls`). Then what a user sees of a call, and which calls are due to be refused (`Refusals`),
-- and what is due of the packets that the client sends (`PacketsSent`); both over contracts (`Contracts`).
pub mod Numbers
pub mod Leading
pub mod Step
pub mod Request
pub mod Answer
pub mod Guard
pub mod Calls
pub mod Refusals
pub mod PacketsSent
pub mod ContractClaims
