-- Turns are a run of a receiver: each makes one call, which is the model's step, and files what waited before it. One turn more adds one of each.
-- Assumes nothing.
use mathlib.Core.Path.{◌≡◌, refl, ap, ◌∙◌, sym}
use mathlib.Core.List.{List, [], ◌∷◌, ◌++◌, append_assoc, append-nil}
use Rattle.journal.specs.Calls.{Call}
use Rattle.model.specs.Runs.{State, Performed, next, OffersOctets, Ran}
use Rattle.filing.specs.Entries.{LogEntry, Handed}
use Rattle.reception.specs.Received.{handed_at, Attempt, Received, over, call, answer}
use Rattle.reception.specs.Notes.{logged_at}
use Rattle.reception.specs.Turns.{ReceiverTurn, call_in, turned, Decided, free, filed, Turns, calls_made, attempts_of, state_after, waits_after, entries_made, TurnAdds}

pub ran_of : (w : List Handed) (s : State) (ts : List ReceiverTurn) → Turns w s ts → Ran s (calls_made s ts)
ran_of w s [] h = tt
ran_of w s (t ∷ ts) h =
    (tt, (record { step = refl; octets = h.1.0 }, ran_of (handed_at (turned s t)) (next (turned s t)) ts h.1.1))

-- one call more in front
decided-call : (u : List Handed) (l : List Attempt) (c : Call) → Decided u l c → (x : Performed) → x.call ≡ c
    → (xs : List Performed) (m : List Attempt) (w : List Handed) → Received (handed_at x) xs m w → Received u (x ∷ xs) (l ++ m) w
decided-call u l c (free d) x e xs m w r = call x r
decided-call u l c (filed a d q) x e xs m w r = answer a x (e ∙ q) r

pub received_of : (w : List Handed) (s : State) (ts : List ReceiverTurn) → Turns w s ts
    → Received w (calls_made s ts) (attempts_of ts) (waits_after w s ts)
received_of w s [] h = over
received_of w s (t ∷ ts) h =
    decided-call w t.attempts (call_in t) h.0 (turned s t) refl (calls_made (next (turned s t)) ts) (attempts_of ts)
    (waits_after (handed_at (turned s t)) (next (turned s t)) ts) (received_of (handed_at (turned s t)) (next (turned s t)) ts h.1.1)

-- ---- one turn more

module _ (t : ReceiverTurn) where
  more-turns : (w : List Handed) (s : State) (ts : List ReceiverTurn) → Turns w s ts → Decided (waits_after w s ts) t.attempts (call_in t)
      → OffersOctets (call_in t) → Turns w s (ts ++ (t ∷ []))
  more-turns w s [] h d o = (d, (o, tt))
  more-turns w s (u ∷ ts) h d o = (h.0, (h.1.0, more-turns (handed_at (turned s u)) (next (turned s u)) ts h.1.1 d o))

  more-calls : (s : State) (ts : List ReceiverTurn) → calls_made s (ts ++ (t ∷ [])) ≡ calls_made s ts ++ (turned (state_after s ts) t ∷ [])
  more-calls s [] = refl
  more-calls s (u ∷ ts) = ap (λ (l : List Performed). turned s u ∷ l) (more-calls (next (turned s u)) ts)

  more-attempts : (ts : List ReceiverTurn) → attempts_of (ts ++ (t ∷ [])) ≡ attempts_of ts ++ t.attempts
  more-attempts [] = append-nil t.attempts
  more-attempts (u ∷ ts) =
      ap (λ (l : List Attempt). u.attempts ++ l) (more-attempts ts) ∙ sym (append_assoc u.attempts (attempts_of ts) t.attempts)

  more-entries : (s : State) (ts : List ReceiverTurn)
      → entries_made s (ts ++ (t ∷ [])) ≡ entries_made s ts ++ logged_at (state_after s ts) t.answer (turned (state_after s ts) t)
  more-entries s [] = append-nil (logged_at s t.answer (turned s t))
  more-entries s (u ∷ ts) =
      ap (λ (l : List LogEntry). logged_at s u.answer (turned s u) ++ l) (more-entries (next (turned s u)) ts)
      ∙ sym (append_assoc (logged_at s u.answer (turned s u)) (entries_made (next (turned s u)) ts) _)

  more-state : (s : State) (ts : List ReceiverTurn) → state_after s (ts ++ (t ∷ [])) ≡ next (turned (state_after s ts) t)
  more-state s [] = refl
  more-state s (u ∷ ts) = more-state (next (turned s u)) ts

  more-waits : (w : List Handed) (s : State) (ts : List ReceiverTurn) → waits_after w s (ts ++ (t ∷ [])) ≡ handed_at (turned (state_after s ts) t)
  more-waits w s [] = refl
  more-waits w s (u ∷ ts) = more-waits (handed_at (turned s u)) (next (turned s u)) ts

pub turn-adds : TurnAdds
turn-adds s ts t h d o =
    record {
      turns = more-turns t [] s ts h d o;
      run = more-calls t s ts;
      attempts = more-attempts t ts;
      entries = more-entries t s ts;
      state = more-state t s ts;
      waits = more-waits t [] s ts;
    }
