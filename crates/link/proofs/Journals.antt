-- The journal of the server's calls, along a run of the link: it stands as the server does, so that both admit the same Puts and Gets.
-- Each call of the run is the model's step, and the bytes that come up are bytes, so the records theorem's coupling goes along. Assumes nothing.
use mathlib.Core.Path.{◌≡◌, refl, sym, ap, subst, ◌∙◌}
use mathlib.Core.List.{List, [], ◌∷◌, ◌++◌}
use mathlib.Core.Bool.{Bool, true, false, false≢true}
use mathlib.Core.Option.{Option, none, some}
use Prim.Native.Nat.{ℕ, zero, suc}
use native.Mathlib.Omega.{arith}
use lib.ListN.{take}
use Rattle.base.specs.Pick.{pick}
use Rattle.text.specs.Unicode.{Octets}
use Rattle.journal.specs.Calls.{Call, bytes_offered_of, stream_ended_of, reply_taken_of, reply_given_of, object_given_of, body_given_of, body_failed_of, abort_acknowledged_of, password_given_of, nonce_given_of, credentials_given_of, connections_closed_of}
use Rattle.journal.specs.Journal.{Journal, journal_after}
use Rattle.server.specs.declared.Await.TheVariants as waits
use Rattle.server.specs.declared.Outcome.{Outcome as ServerOutcome}
use Rattle.server.specs.declared.Outcome.TheVariants as told
use Rattle.server.specs.declared.Settings.{Settings as ServerSettings}
use Rattle.model.specs.Refusals.{Known, learns, feed_from, at_start}
use Rattle.model.specs.Runs.{State, Started, Performed, next, lent_to, OffersOctets, Ran, seen}
use Rattle.model.specs.Theorem.{journal_of}
use Rattle.model.proofs.Records.{Between, between_on, between_next, start_between}
use Rattle.client_model.specs.declared.Outcome.{Outcome}
use Rattle.client_model.specs.declared.Outcome.TheVariants as said
use Rattle.link.specs.Link.{Link, Move, user, host, sendUp, sendDown, offerUp, offerDown, closeUp, closeDown, is_answer, sends_down, reply_bytes, closes_up, server_call, call_after, up_after, close_after, move, moves, performed_by, performed_in}
use Rattle.link.specs.Claims.{journal_in}
use Rattle.link.proofs.Admission.{admission, get_admission}
use Rattle.link.proofs.Parts.{Ties}

-- ---- along a list of calls

-- the state after some calls
abbrev after : State → List Performed → State
after s [] = s
after s (x ∷ xs) = after (next x) xs

after-append : (s : State) (xs ys : List Performed) → after s (xs ++ ys) ≡ after (after s xs) ys
after-append s [] ys = refl
after-append s (x ∷ xs) ys = after-append (next x) xs ys

ran_append : (s : State) (xs ys : List Performed) → Ran s xs → Ran (after s xs) ys → Ran s (xs ++ ys)
ran_append s [] ys p q = q
ran_append s (x ∷ xs) ys p q = (p.0, (p.1.0, ran_append (next x) xs ys p.1.1 q))

-- engine and journal stand together after them
pub record Together (st : ServerSettings) (s : State) (j : Journal) : Type 0 where
  pub known : Known
  pub between : Between st known s j

run-between : (st : ServerSettings) (xs : List Performed) (w : Known) (s : State) (j : Journal) → Between st w s j → Ran s xs
    → Together st (after s xs) (journal_after j (feed_from w j (seen st s xs)))
run-between st [] w s j b r = record { known = w; between = b }
run-between st (x ∷ xs) w s j b r =
    let c = between_on st w s j x.written r.0 b in
    run-between st xs (learns w x.call x.result.outcome) (next x) _ (between_next st w (lent_to s x) j c x r.1.0) r.1.1

-- ---- the calls of a run of the link

octets-take : (n : ℕ) (l : List ℕ) → Octets l → Octets (take n l)
octets-take zero l o k = omega arith
octets-take (suc n) [] o k = omega arith
octets-take (suc n) (x ∷ l) o zero = o 0
octets-take (suc n) (x ∷ l) o (suc k) = octets-take n l (λ i. o (suc i)) k

-- a call of a move offers bytes
answer-octets : (c : Call) → is_answer c ≡ true → OffersOctets c
answer-octets (bytes_offered_of i) e = absurd (false≢true e)
answer-octets stream_ended_of e = tt
answer-octets reply_taken_of e = tt
answer-octets (reply_given_of code hs) e = tt
answer-octets (object_given_of hs b) e = tt
answer-octets (body_given_of d) e = tt
answer-octets body_failed_of e = tt
answer-octets abort_acknowledged_of e = tt
answer-octets (password_given_of p) e = tt
answer-octets (nonce_given_of n realm) e = tt
answer-octets (credentials_given_of c) e = tt
answer-octets (connections_closed_of l) e = tt

abbrev CallOctets : Option Call → Type 0
CallOctets none = Unit {0}
CallOctets (some c) = OffersOctets c

call-octets : (l : Link) → Octets l.up → (m : Move) → CallOctets (server_call l m)
call-octets l o (user u) = tt
call-octets l o (host c) = by (is_answer c) refl
  where
    by : (b : Bool) → is_answer c ≡ b → CallOctets (pick b (some c) none)
    by true e = answer-octets c e
    by false e = tt
call-octets l o sendUp = tt
call-octets l o sendDown = by l.told
  where
    by : (t : ServerOutcome) → CallOctets (sends_down t)
    by (told.Reply n) = tt
    by told.WantsBytes = tt
    by (told.Request r) = tt
    by (told.End x) = tt
    by (told.Refused r) = tt
call-octets l o (offerUp n) = octets-take n l.up o
call-octets l o (offerDown n) = tt
call-octets l o closeUp = by l.said l.up
  where
    by : (s : Outcome) (u : List ℕ) → CallOctets (closes_up s u)
    by (said.End x) [] = tt
    by (said.End x) (b ∷ u) = tt
    by said.Ready u = tt
    by (said.Send n) u = tt
    by said.WantsBytes u = tt
    by (said.Read n) u = tt
    by (said.Part k b) u = tt
    by (said.Done c n) u = tt
    by (said.Stopped c n) u = tt
    by (said.Aborted c n) u = tt
    by (said.Refused r) u = tt
call-octets l o closeDown = tt

-- it is what its contract says
call-ran : (s : State) (c : Option Call) → CallOctets c → Ran s (performed_by s c)
call-ran s none o = tt
call-ran s (some c) o = (tt, (record { step = refl; octets = o }, tt))

-- the server after a move is that after its call
moved-server : (l : Link) (m : Move) → (move l m).server ≡ after l.server (performed_by l.server (server_call l m))
unfolding move
moved-server l m = by m
  where
    called : (c : Option Call) (down : List ℕ) → (call_after c l down).server ≡ after l.server (performed_by l.server c)
    called none down = refl
    called (some c) down = refl

    sent : (o : Outcome) → (up_after o l).server ≡ l.server
    sent (said.Send n) = refl
    sent said.Ready = refl
    sent said.WantsBytes = refl
    sent (said.Read n) = refl
    sent (said.Part k b) = refl
    sent (said.Done c n) = refl
    sent (said.Stopped c n) = refl
    sent (said.Aborted c n) = refl
    sent (said.End x) = refl
    sent (said.Refused r) = refl

    closed : (o : ServerOutcome) (down : List ℕ) → (close_after o down l).server ≡ l.server
    closed (told.End x) [] = refl
    closed (told.End x) (b ∷ down) = refl
    closed told.WantsBytes down = refl
    closed (told.Reply n) down = refl
    closed (told.Request r) down = refl
    closed (told.Refused r) down = refl

    by : (m : Move) → (move l m).server ≡ after l.server (performed_by l.server (server_call l m))
    by (user u) = refl
    by (host c) = called (server_call l (host c)) l.down
    by sendUp = sent l.said
    by sendDown = called (server_call l sendDown) (l.down ++ reply_bytes l.told l.server.stores.reply)
    by (offerUp n) = called (server_call l (offerUp n)) l.down
    by (offerDown n) = refl
    by closeUp = called (server_call l closeUp) l.down
    by closeDown = closed l.told l.down

-- the bytes under way are bytes at each moment of a run
abbrev pub OctetsIn : Link → List Move → Type 0
OctetsIn l [] = Unit {0}
OctetsIn l (m ∷ ms) = Octets l.up × OctetsIn (move l m) ms

run_ran : (ms : List Move) (l : Link) → OctetsIn l ms → Ran l.server (performed_in l ms)
    × ((moves l ms).server ≡ after l.server (performed_in l ms))
run_ran [] l o = (tt, refl)
run_ran (m ∷ ms) l o =
    let p = performed_by l.server (server_call l m) in
    let w = run_ran ms (move l m) o.1 in
    let e = moved-server l m in (
      ran_append l.server p (performed_in (move l m) ms) (call-ran l.server (server_call l m) (call-octets l o.0 m))
          (subst (λ (s : State). Ran s (performed_in (move l m) ms)) e w.0),
      w.1 ∙ ap (λ (s : State). after s (performed_in (move l m) ms)) e ∙ sym (after-append l.server p (performed_in (move l m) ms)),
    )

pub run_together : (st : ServerSettings) (l : Link) (ms : List Move) → Started st l.server → OctetsIn l ms
    → Together st (moves l ms).server (journal_in st l ms)
run_together st l ms f o =
    let w = run_ran ms l o in
    subst (λ (s : State). Together st s (journal_in st l ms)) (sym w.1)
    (run-between st (performed_in l ms) (at_start st) l.server (journal_of st) (start_between st l.server f) w.0)

-- ---- what is admitted

pub together_ties : (st : ServerSettings) (s : State) (j : Journal) → Together st s j → s.engine.awaits ≡ waits.Bytes → Ties st j s
together_ties st s j w a =
    record {
      settings = w.between.settings;
      puts = admission s j a w.between.coupled;
      gets = get_admission s j a w.between.coupled;
    }
