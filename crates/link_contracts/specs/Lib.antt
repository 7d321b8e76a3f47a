-- A call of a function (`FunctionCall`), the calls of the client's and of the engine's own functions (`ClientFunctions`, `ServerFunctions`), and what
-- is claimed of runs of both (`FunctionRuns`), in the order in which they build on one another.
pub mod FunctionCall
pub mod ClientFunctions
pub mod ServerFunctions
pub mod FunctionRuns
