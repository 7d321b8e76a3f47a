-- What holds of a Put besides `PutHolds` (docs/PROTOCOL.md#link): when a record is given at all, which of the client's three outcomes comes when,
-- why the client ends, and how long its packets are.
use Rattle.std.specs.Prelude.{ℕ, ◌≤◌, ◌≡◌, List, [], ◌∷◌, ◌++◌, Bool, true, false, ◌⊎◌, length, take}
use Rattle.packet.specs.Limits.{max_packet}
use Rattle.journal.specs.Record.{size_of}
use Rattle.journal.specs.Journal.{Journal}
use Rattle.server.specs.declared.Settings.{Settings as ServerSettings}
use Rattle.server.specs.declared.End.TheVariants as server_end
use Rattle.server.specs.declared.Outcome.TheVariants as told
use Rattle.client_model.specs.Leading.{leading}
use Rattle.client_model.specs.declared.End.{End}
use Rattle.client_model.specs.declared.Settings.{Settings}
use Rattle.client_model.specs.declared.Outcome.TheVariants as said
use Rattle.link.specs.Link.{Link, put, Move, user, move, moves}
use Rattle.link.specs.Told.{is_over, goes, given_in, aborted_in, final_in, records_in}
use Rattle.link.specs.Claims.{Plain, Fresh, connected_in, Until, first_put, is_admitted, journal_in, record_of}

-- What holds of a Put with the headers `hs`, with a body or without, that was called in the link `before` and led to `l`, by the run `ms`. The
-- journal is that of the server's calls up to then.
pub record PutMore (st : ServerSettings) (j : Journal) (before l : Link) (hs : List ℕ) (has : Bool) (ms : List Move) : Type 0 where
  -- The record is given only where `PutHolds` says that it is: the Put is admitted, within the Put limit, not aborted, and its kept headers
  -- are within 65,535 bytes.
  pub only : records_in l ms ≡ record_of before.client.connection_id hs has (given_in l ms) ∷ []
      → (is_admitted j (first_put before.client hs) ≡ true)
      × (size_of (record_of before.client.connection_id hs has (given_in l ms)) ≤ st.max_object_size)
      × (aborted_in l ms ≡ false) × (length (leading before.client.connection_id false ++ hs) ≤ max_packet)
  -- The client says that the Put is done only after the final packet was sent, that it was stopped only before, and that it was aborted only
  -- before and if the user did abort.
  pub done : (c n : ℕ) → (moves l ms).said ≡ said.Done c n → final_in l ms ≡ true
  pub stopped : (c n : ℕ) → (moves l ms).said ≡ said.Stopped c n → final_in l ms ≡ false
  pub aborted : (c n : ℕ) → (moves l ms).said ≡ said.Aborted c n → (final_in l ms ≡ false) × (aborted_in l ms ≡ true)
  -- The client ends only if the server has ended, because of kept headers or of a reply over 65,535 bytes (6, 7).
  pub ended : (x : End) → (moves l ms).said ≡ said.End x
      → ((moves l ms).told ≡ told.End server_end.HeadersTooLarge) ⊎ ((moves l ms).told ≡ told.End server_end.ReplyTooLarge)
  -- Each packet that waits to be sent is within the limit that the client has for the server.
  pub within : (xs ys : List Move) → ms ≡ xs ++ ys → is_over (moves l xs).said ≡ false → (n : ℕ) → (moves l xs).said ≡ said.Send n
      → length (take n (moves l xs).stores.request) ≤ before.client.remote_max_packet_length

-- The claim, after any run of two fresh ends with an accepted Connect: a Put, passed on to its end.
abbrev pub PutsMore : Type 0
PutsMore =
    (st : ServerSettings) (cs : Settings) (l : Link) (before ms : List Move) (hs : List ℕ) (has : Bool) → Fresh st cs l
    → Plain before → Plain (user (put hs has) ∷ ms) → connected_in false l before ≡ true
    → goes (moves l before) (put hs has) ≡ true → Until (move (moves l before) (user (put hs has))) ms
    → PutMore st (journal_in st l before) (moves l before) (move (moves l before) (user (put hs has))) hs has ms
