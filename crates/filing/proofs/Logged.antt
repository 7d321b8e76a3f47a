-- The log stands for the journal's records, their Targets and the end, and a log that was cut off for the first records. Assumes nothing.
use mathlib.Core.Path.{◌≡◌, refl, ap, sym, ◌∙◌}
use mathlib.Core.Bool.{Bool, true, false}
use mathlib.Core.List.{List, [], ◌∷◌, ◌++◌, append_assoc}
use mathlib.Core.Option.{Option, none, some}
use Prim.Native.Nat.{ℕ}
use Rattle.base.specs.Pick.{pick}
use Rattle.journal.specs.Record.{Record}
use Rattle.journal.specs.Calls.{bytes_offered_of, stream_ended_of, reply_taken_of, reply_given_of, object_given_of, body_given_of, body_failed_of, abort_acknowledged_of, password_given_of, nonce_given_of, credentials_given_of, connections_closed_of, Fed, no_step, step_by_of, reply_sent}
use Rattle.journal.specs.Journal.{Journal, Entry as Step, unchanged, journal_fed, journal_step, journal_ends}
use Rattle.journal.specs.Naming.{Naming, fed_names, naming_step}
use Rattle.filing.specs.Entries.{LogEntry, entry_step, names_step, Handed, handed_under, log_handed, log_records, first_end, log_ends, logged, log_of}
use Rattle.filing.specs.Claims.{LogStands, LogNames, LogTellsEnd, CutLog}

-- a step that changes nothing, ended or not
same_step : (t : Bool) (j : Journal) → pick t (unchanged j) (unchanged j) ≡ unchanged j
same_step true j = refl
same_step false j = refl

same_names : (t : Bool) (n : Naming) → pick t n n ≡ n
same_names true n = refl
same_names false n = refl

-- ---- records

-- the records that follow a step
abbrev follows : Step → List LogEntry → List Record
follows x es = x.given ++ log_records x.next es

-- what a call's entries do is the call's step
one-call : (j : Journal) (f : Fed) (es : List LogEntry) → log_records j (logged j f ++ es) ≡ follows (journal_fed j f) es
unfolding entry_step
one-call j no_step es = refl
one-call j (reply_sent b) es = refl
one-call j (step_by_of (bytes_offered_of i)) es = refl
one-call j (step_by_of stream_ended_of) es = refl
one-call j (step_by_of (reply_given_of code hs)) es = refl
one-call j (step_by_of (object_given_of hs body)) es = refl
one-call j (step_by_of (password_given_of p)) es = refl
one-call j (step_by_of (nonce_given_of n l)) es = refl
one-call j (step_by_of (connections_closed_of l)) es = refl
one-call j (step_by_of reply_taken_of) es = sym (ap (λ (x : Step). follows x es) (same_step j.ended j))
one-call j (step_by_of (body_given_of d)) es = sym (ap (λ (x : Step). follows x es) (same_step j.ended j))
one-call j (step_by_of body_failed_of) es = sym (ap (λ (x : Step). follows x es) (same_step j.ended j))
one-call j (step_by_of abort_acknowledged_of) es = sym (ap (λ (x : Step). follows x es) (same_step j.ended j))
one-call j (step_by_of (credentials_given_of c)) es = sym (ap (λ (x : Step). follows x es) (same_step j.ended j))

pub log-stands : LogStands
unfolding journal_step
log-stands j [] = refl
log-stands j (f ∷ fs) =
    one-call j f (log_of (journal_step j f).next fs)
    ∙ ap (λ (l : List Record). (journal_step j f).given ++ l) (log-stands (journal_step j f).next fs)

-- ---- Targets

abbrev pub follows-named : Step → Naming → List LogEntry → List Handed
follows-named x n es = handed_under n.under x.given ++ log_handed x.next n es

-- a call of which nothing is logged changes neither journal nor naming
silent-call : (j : Journal) (n : Naming) (es : List LogEntry)
    → follows-named (pick j.ended (unchanged j) (unchanged j)) (pick j.ended n n) es ≡ log_handed j n es
silent-call j n es =
    ap (λ (x : Step). follows-named x (pick j.ended n n) es) (same_step j.ended j)
    ∙ ap (λ (m : Naming). log_handed j m es) (same_names j.ended n)

pub named-call : (j : Journal) (n : Naming) (f : Fed) (es : List LogEntry)
    → log_handed j n (logged j f ++ es) ≡ follows-named (journal_fed j f) (fed_names j n f) es
unfolding entry_step names_step
named-call j n no_step es = refl
named-call j n (reply_sent b) es = refl
named-call j n (step_by_of (bytes_offered_of i)) es = refl
named-call j n (step_by_of (reply_given_of code hs)) es = refl
named-call j n (step_by_of stream_ended_of) es = sym (ap (λ (m : Naming). follows-named (journal_fed j (step_by_of stream_ended_of)) m es) (same_names j.ended n))
named-call j n (step_by_of (object_given_of hs body)) es =
    sym (ap (λ (m : Naming). follows-named (journal_fed j (step_by_of (object_given_of hs body))) m es) (same_names j.ended n))
named-call j n (step_by_of (password_given_of p)) es =
    sym (ap (λ (m : Naming). follows-named (journal_fed j (step_by_of (password_given_of p))) m es) (same_names j.ended n))
named-call j n (step_by_of (nonce_given_of o l)) es =
    sym (ap (λ (m : Naming). follows-named (journal_fed j (step_by_of (nonce_given_of o l))) m es) (same_names j.ended n))
named-call j n (step_by_of (connections_closed_of l)) es =
    sym (ap (λ (m : Naming). follows-named (journal_fed j (step_by_of (connections_closed_of l))) m es) (same_names j.ended n))
named-call j n (step_by_of reply_taken_of) es = sym (silent-call j n es)
named-call j n (step_by_of (body_given_of d)) es = sym (silent-call j n es)
named-call j n (step_by_of body_failed_of) es = sym (silent-call j n es)
named-call j n (step_by_of abort_acknowledged_of) es = sym (silent-call j n es)
named-call j n (step_by_of (credentials_given_of c)) es = sym (silent-call j n es)

pub log-names : LogNames
unfolding journal_step naming_step
log-names j n [] = refl
log-names j n (f ∷ fs) =
    named-call j n f (log_of (journal_step j f).next fs)
    ∙ ap (λ (l : List Handed). handed_under (naming_step j n f).under (journal_step j f).given ++ l)
    (log-names (journal_step j f).next (naming_step j n f) fs)

-- ---- the end

-- the number of a step, and else the first that follows
abbrev ends_with : Step → List LogEntry → Option ℕ
ends_with x es = first_end (x.number ∷ log_ends x.next es)

end-call : (j : Journal) (f : Fed) (es : List LogEntry) → first_end (log_ends j (logged j f ++ es)) ≡ ends_with (journal_fed j f) es
unfolding entry_step
end-call j no_step es = refl
end-call j (reply_sent b) es = refl
end-call j (step_by_of (bytes_offered_of i)) es = refl
end-call j (step_by_of stream_ended_of) es = refl
end-call j (step_by_of (reply_given_of code hs)) es = refl
end-call j (step_by_of (object_given_of hs body)) es = refl
end-call j (step_by_of (password_given_of p)) es = refl
end-call j (step_by_of (nonce_given_of n l)) es = refl
end-call j (step_by_of (connections_closed_of l)) es = refl
end-call j (step_by_of reply_taken_of) es = sym (ap (λ (x : Step). ends_with x es) (same_step j.ended j))
end-call j (step_by_of (body_given_of d)) es = sym (ap (λ (x : Step). ends_with x es) (same_step j.ended j))
end-call j (step_by_of body_failed_of) es = sym (ap (λ (x : Step). ends_with x es) (same_step j.ended j))
end-call j (step_by_of abort_acknowledged_of) es = sym (ap (λ (x : Step). ends_with x es) (same_step j.ended j))
end-call j (step_by_of (credentials_given_of c)) es = sym (ap (λ (x : Step). ends_with x es) (same_step j.ended j))

-- two lists of numbers with one first number, behind the same one
pub behind : (o : Option ℕ) (l m : List (Option ℕ)) → first_end l ≡ first_end m → first_end (o ∷ l) ≡ first_end (o ∷ m)
behind none l m e = e
behind (some n) l m e = refl

pub log-tells-end : LogTellsEnd
unfolding journal_step
log-tells-end j [] = refl
log-tells-end j (f ∷ fs) =
    let k = (journal_step j f).next in
    end-call j f (log_of k fs) ∙ behind (journal_step j f).number (log_ends k (log_of k fs)) (journal_ends k fs) (log-tells-end k fs)

-- ---- a log that was cut off

pub cut-log : CutLog
cut-log j [] fs = record { more = log_records j fs; whole = refl }
cut-log j (e ∷ es) fs =
    let w = cut-log (entry_step j e).next es fs in
    record {
      more = w.more;
      whole = ap (λ (l : List Record). (entry_step j e).given ++ l) w.whole
          ∙ sym (append_assoc (entry_step j e).given (log_records (entry_step j e).next es) w.more);
    }
