-- Theorems over the definitions of specs/, and no code: `Laws` (what packets carry, and bytes read in pieces), `Scan` (the Put forms, found
-- in one pass), `Forms` (the journal's records are theirs), `Ends` (where the journal ends, and how many bytes it takes), `Checked` (the
-- window and the history of password checks), `Rules` (which checks a call adds), `Closing` (ids closed one after the other), `IdsSame`
-- (which calls leave the open ids), `Opens` (a packet leaves an operation open, or a reply is due).
pub mod Laws
pub mod Scan
pub mod Forms
pub mod Ends
pub mod Checked
pub mod Rules
pub mod Closing
pub mod IdsSame
pub mod Opens
