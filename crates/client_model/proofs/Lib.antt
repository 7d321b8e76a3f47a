-- Theorems over the definitions of specs/: `Conveyed` (the packets of an object or a request read back as the headers and the body that they
-- were made of), `Leads` (what leads, and what is put back), `Requests` (a Put that is not refused is conveyed whole; requests and responses
-- read back), `Sending` (the packets that the client makes of a request are those), `Unmoved` (a refused call changes nothing). `Standing` (what
-- holds between two calls, and what a user knows of it) and `Responding` (what a response leaves) carry `Due`: a call is refused exactly if it is
-- due to be (`client-refusals`), with examples of the client alone (`Examples`), and `PacketsSent`: every packet that is sent is within the
-- server's limit and can be read with its own opcode (`client-sends`). `Contracts` restates both over what the functions' contracts say.
pub mod Conveyed
pub mod Leads
pub mod Requests
pub mod Sending
pub mod Unmoved
pub mod Putting
pub mod Only
pub mod Within
pub mod Standing
pub mod Responding
pub mod Due
pub mod Examples
pub mod PacketsSent
pub mod Contracts
pub mod Getting
