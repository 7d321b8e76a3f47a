-- What several proofs cite, in the order in which they build on one another.
-- Months: the lengths of months and years, and which days exist. Count: the count of days. Place: the date at a count. Rolls: one day forward.
-- Text: the form YYYYMMDDTHHMMSSZ. Times: both conversions.
pub mod Months
pub mod Count
pub mod Place
pub mod Rolls
pub mod Text
pub mod Times
