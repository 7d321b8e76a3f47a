-- Each call of a function is the model's step, function by function (`Functions`); the claims on runs of both ends (`FunctionRuns`).
pub mod Functions
pub mod FunctionRuns
