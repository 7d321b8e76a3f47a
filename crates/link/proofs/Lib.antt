-- Examples of client and server together, computed by the checker; moves that change nothing (`Moves`); a Put from its call to its end: the phases
-- (`Joint`), the client (`ClientCalls`, `ClientMoves`), the server (`ServerMoves`), runs (`PutRuns`), its first packet (`FirstPacket`), two fresh
-- ends (`Resting`), bytes (`PutOctets`), moments (`PutMoments`), the claim (`PutWhole`), a part of a longer run
-- (`PutPart`); a Get, with Single Response Mode or without (`GetHeard` to `GetPart`); a Connect and a Disconnect (`ConnectJoint` to
-- `ConnectRuns`); what every call of the client keeps (`ClientKeeps`); what the journal admits (`Admission`), what whole runs ask of a Put and a Get
-- (`Parts`), bytes on the stream (`Keeping`), every run (`Whole`), the journal beside it (`Journals`), what an operation finds after any run
-- (`AllRuns`), the contracts of both ends (`Contracts`), the claims (`Claimed`), and what the server's host may write into its packet store
-- (`HostWrites`).
pub mod Examples
pub mod Moves
pub mod Joint
pub mod ClientCalls
pub mod ClientMoves
pub mod ServerMoves
pub mod PutRuns
pub mod FirstPacket
pub mod Resting
pub mod PutOctets
pub mod PutMoments
pub mod PutWhole
pub mod PutPart
pub mod GetHeard
pub mod GetObject
pub mod Queues
pub mod GetJoint
pub mod GetClientMoves
pub mod GetResponses
pub mod GetServerMoves
pub mod GetPours
pub mod GetTakes
pub mod GetStreams
pub mod GetReads
pub mod GetHostMoves
pub mod GetFlows
pub mod GetRuns
pub mod GetMoments
pub mod Opens
pub mod GetSlice
pub mod GetPart
pub mod ConnectJoint
pub mod ConnectReplies
pub mod ConnectServer
pub mod ConnectMoves
pub mod ConnectAnswers
pub mod ConnectEnds
pub mod ConnectRuns
pub mod ClientKeeps
pub mod Admission
pub mod Parts
pub mod Keeping
pub mod Whole
pub mod Journals
pub mod AllRuns
pub mod Contracts
pub mod Claimed
pub mod HostWrites
