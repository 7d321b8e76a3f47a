-- The log; the settings; what is made of the letters of checks; how a filing comes out, and what is decided on a request; turns, and runs of
-- them.
pub mod Log
pub mod Opening
pub mod Checks
pub mod Filing
pub mod Turning
