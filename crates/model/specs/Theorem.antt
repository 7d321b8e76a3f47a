-- The records theorem (the mission's demand 3). It is a single claim about a list of calls: for every accepted start and every run of calls
-- from there, what the calls return and hand over is what the journal says, which is fed what the host sees and nothing of the engine.
-- Journal and model share how packets are read (`request_of`, `read_headers`), which headers are kept (`is_body`, `is_srm`), the ids (`member`,
-- `new_id`, `without`, `all_open`, `repeats`), `is_enable`, `response_in` and `verified`. The theorem cannot tell these wrong; README, "What
-- must be believed", says what guards each.
use Rattle.std.specs.Prelude.{ℕ, ◌≤◌, ◌≡◌, List, [], ◌∷◌, map, Bool, true, false, ◌&&◌, length, take}
use Rattle.journal.specs.Calls.{Fed, refused}
use Rattle.journal.specs.Journal.{Journal, Settings as JournalSettings, fresh, journal_records, journal_counts, journal_ends, packets, Marked, kept_after}
use Rattle.journal.specs.PutForm.{Exactly}
use Rattle.model.specs.Refusals.{verdict_of, end_of, due, feed}
use Rattle.model.specs.Replies.{Replies}
use Rattle.journal.specs.Srm.{Due, silent, continues, speaks, continue_reply, dues}
use Rattle.model.specs.Runs.{State, Performed, next, lent_to, Ran, records, Started, seen}
use Rattle.server.specs.declared.Settings.{Settings}
use Rattle.server.specs.declared.Outcome.{Outcome}
use Rattle.server.specs.declared.Outcome.TheVariants as outcome

-- The settings that the journal keeps.
abbrev pub settings_of : Settings → JournalSettings
settings_of st =
    record {
      limit = st.max_object_size;
      srm = st.srm_supported;
      authentication = st.authentication;
      demands_user = st.user_id_enforced && st.user_id_required;
      refuses = st.refuse_trailing;
    }

-- The journal of a fresh engine with these settings.
abbrev pub journal_of : Settings → Journal
journal_of st = fresh (settings_of st)

-- What the journal is fed of a run from the state `s`.
abbrev pub fed : Settings → State → List Performed → List Fed
fed st s xs = feed st (journal_of st) (seen st s xs)

-- The premise on kept headers: they stay within 65,535 bytes.
abbrev pub Kept : List Marked → Type 0
Kept [] = Unit {0}
Kept (m ∷ ms) = (length (kept_after m) ≤ 65535) × Kept ms

-- A refused call changes nothing of what it was lent.
abbrev pub Unmoved : State → List Performed → Type 0
Unmoved s [] = Unit {0}
Unmoved s (x ∷ xs) = ((n : ℕ) → verdict_of x.result.outcome ≡ refused n → next x ≡ lent_to s x) × Unmoved (next x) xs

-- The call returned that it wants bytes, so it made no reply and no request.
abbrev pub wants_bytes : Outcome → Bool
wants_bytes outcome.WantsBytes = true
wants_bytes (outcome.Reply n) = false
wants_bytes (outcome.Request r) = false
wants_bytes (outcome.End n) = false
wants_bytes (outcome.Refused r) = false

-- A call does what is due, by its outcome `o` and the reply store `y` afterwards: it wants bytes, or it makes that Continue, or it does not
-- want bytes.
abbrev pub Obeys : Due → Outcome → List ℕ → Type 0
Obeys silent o y = o ≡ outcome.WantsBytes
Obeys (continues g) o y = (o ≡ outcome.Reply (length (continue_reply g))) × (take (length (continue_reply g)) y ≡ continue_reply g)
Obeys speaks o y = wants_bytes o ≡ false

-- Each call of a run does what is due after it.
abbrev pub AllObey : List Due → List Performed → Type 0
AllObey [] [] = Unit {0}
AllObey [] (x ∷ xs) = ⊥
AllObey (d ∷ ds) [] = ⊥
AllObey (d ∷ ds) (x ∷ xs) = Obeys d x.result.outcome x.stores.reply × AllObey ds xs

-- What holds of a run if kept headers stay within 65,535 bytes.
pub record Agrees (st : Settings) (s : State) (xs : List Performed) : Type 0 where
  -- The records handed over are the journal's, and exactly those of the Put forms of the packets.
  pub journal : records xs ≡ journal_records (journal_of st) (fed st s xs)
  pub forms : Exactly st.max_object_size (packets (journal_of st) (fed st s xs)) (records xs)
  -- Each call reports as many bytes as the journal says were taken.
  pub counts : map (λ (x : Performed). x.result.taken) xs ≡ journal_counts (journal_of st) (fed st s xs)
  -- A reply is made, and Single Response Mode granted, where its definition says so.
  pub srm : AllObey (dues (journal_of st) (fed st s xs)) xs

-- What holds of a run `xs` of calls, from the state `s` of an accepted start with the settings `st`.
pub record Upholds (st : Settings) (s : State) (xs : List Performed) : Type 0 where
  -- A call is refused exactly if it is due to be, with the number that is due; and then it changes nothing.
  pub refusals : map (λ (x : Performed). verdict_of x.result.outcome) xs ≡ due st (journal_of st) (seen st s xs)
  pub unmoved : Unmoved s xs
  pub agrees : Kept (packets (journal_of st) (fed st s xs)) → Agrees st s xs
  -- The engine ends in the calls in which the journal says so, and with its number, if replies stay within 65,535 bytes too.
  pub ends : Kept (packets (journal_of st) (fed st s xs)) → Replies (journal_of st) (fed st s xs)
      → map (λ (x : Performed). end_of x.result.outcome) xs ≡ journal_ends (journal_of st) (fed st s xs)

-- The records theorem, from every state that an accepted start leaves.
abbrev pub RecordsTheorem : Type 0
RecordsTheorem = (st : Settings) (s : State) → Started st s → (xs : List Performed) → Ran s xs → Upholds st s xs
