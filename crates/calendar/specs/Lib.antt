-- The definitions that the contracts cite, in the order in which they build on one another, and the claims about them.
-- Day: the calendar, the day count, a date rolled forward. Time: texts, and both conversions. Claims: what is proved of them.
pub mod Day
pub mod Time
pub mod Claims
