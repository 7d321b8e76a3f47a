-- The journal's records are those of the Put forms among the packets that it reads. No engine is in it. Assumes nothing.
use mathlib.Core.Path.{◌≡◌, refl, sym, ap, ap₂, ◌∙◌, subst}
use mathlib.Core.List.{List, [], ◌∷◌, ◌++◌, map}
use mathlib.Core.Bool.{Bool, true, false, ◌&&◌, ◌||◌, not, and-false, false≢true}
use mathlib.Core.Option.{Option, none, some}
use Prim.Native.Nat.{ℕ, ◌+◌, ◌≤◌}
use native.Mathlib.Omega.{arith}
use lib.Dec.{leb, eqb}
use borrow.Author.Tests.{leb-false}
use Rattle.base.specs.Pick.{pick}
use Rattle.digest.specs.Md5.{octets16}
use Rattle.packet.specs.FirstByte.{same_opcode}
use Rattle.packet.specs.Header.{all_bytes}
use Rattle.packet.specs.Packet.{Request, request_of}
use Rattle.packet.specs.declared.opcode.Opcode.{Opcode}
use Rattle.packet.specs.declared.opcode.Opcode.TheVariants.{Connect, Disconnect, Put, Get, SetPath, Action, Session, Abort, UserDefined}
use Rattle.journal.specs.Record.{Record, bare, joined, size_of, carried_by, kept_by_get}
use Rattle.journal.specs.Calls.{Call, bytes_offered_of, stream_ended_of, reply_taken_of, reply_given_of, object_given_of, body_given_of, body_failed_of, abort_acknowledged_of, password_given_of, nonce_given_of, credentials_given_of, connections_closed_of, Fed, no_step, step_by_of, reply_sent}
use Rattle.journal.specs.Journal.{Opened, nothing, putting, getting, sending, gathering, draining, busy, Journal, fresh, Entry, unchanged, begin, after, opens, stands, end, ends_with, admitted, asks_srm, put_read, gather_read, turned_away, dropped, first_read, stopped, request_read, packet_read, journal_packet, Read, more, whole, short, read_up, bytes_read, reply_to, reply_last, replied, object_sent, taken_at, password_checked, challenged, closes, passes, stream_number, journal_call, journal_fed, journal_step, journal_records, Marked, read_in, call_reads, fed_reads, packets, trailing, overrun, trails, is_stopped, with_check, connect_read}
use Rattle.journal.specs.PutForm.{readable_put, is_final, carried_in, admits, Form, Apart, is_trailing, trails_request, is_trailed}
use Rattle.journal.specs.Checks.{stop}
use Rattle.journal.specs.Claim.{PutForms}
use Rattle.journal.proofs.Scan.{run, forms, past, forms-sound, forms_complete}

-- ---- records told

-- the records of these forms, which begin at or after a place and lie apart
record Told (at : ℕ) (rs : List Record) (fs : List Form) : Type 0 where
  same : rs ≡ map (λ (f : Form). f.given) fs
  apart : Apart at fs

earlier : (m n : ℕ) (l : List Form) → m ≤ n → Apart n l → Apart m l
earlier m n [] h w = tt
earlier m n (f ∷ l) h w = (omega (arith, w.0), w.1)

sooner : {m n : ℕ} {rs : List Record} {fs : List Form} → m ≤ n → Told n rs fs → Told m rs fs
sooner {m} {n} {rs} {fs} h w = record { same = w.same; apart = earlier m n fs h w.apart }

-- ---- an ended journal reads nothing and gives nothing

ended-given : (j : Journal) (f : Fed) → j.ended ≡ true → (journal_fed j f).given ≡ []
ended-given j no_step e = refl
ended-given j (step_by_of c) e = simp e
ended-given j (reply_sent b) e = simp e

ended-next : (j : Journal) (f : Fed) → j.ended ≡ true → (journal_fed j f).next ≡ j
ended-next j no_step e = refl
ended-next j (step_by_of c) e = simp e
ended-next j (reply_sent b) e = simp e

ended-reads : (j : Journal) (f : Fed) → j.ended ≡ true → fed_reads j f ≡ []
ended-reads j no_step e = refl
ended-reads j (step_by_of c) e = simp e
ended-reads j (reply_sent b) e = refl

ended-records : (fs : List Fed) (j : Journal) → j.ended ≡ true → journal_records j fs ≡ []
unfolding journal_step
ended-records [] j e = refl
ended-records (f ∷ fs) j e =
    ap₂ (λ (l : List Record) (x : Journal). l ++ journal_records x fs) (ended-given j f e) (ended-next j f e) ∙ ended-records fs j e

ended-packets : (fs : List Fed) (j : Journal) → j.ended ≡ true → packets j fs ≡ []
unfolding journal_step
ended-packets [] j e = refl
ended-packets (f ∷ fs) j e =
    ap₂ (λ (l : List Marked) (x : Journal). l ++ packets x fs) (ended-reads j f e) (ended-next j f e) ∙ ended-packets fs j e

-- ---- what is open

-- what an open Put carries; none where no Put is open
abbrev carrying : Opened → Option Record
carrying nothing = none
carrying trailing = none
carrying (putting c s) = some c
carrying (getting k) = none
carrying sending = none
carrying (gathering o k) = none
carrying draining = none

carrying-pick : (t : Bool) (o u : Opened) → carrying o ≡ none → carrying u ≡ none → carrying (pick t o u) ≡ none
carrying-pick true o u e f = e
carrying-pick false o u e f = f

-- the form that an open Put may still become in the packets ps that come next; `at` is its first packet, n its packets so far
abbrev pending : ℕ → Option Record → ℕ → ℕ → List Marked → List Form
pending limit none at n ps = []
pending limit (some c) at n ps = run limit at n c ps

pending-none : (limit : ℕ) (c : Option Record) (at n : ℕ) → pending limit c at n [] ≡ []
pending-none limit none at n = refl
pending-none limit (some c) at n = refl

-- ---- the claim, with something open: its form, if it becomes one, and those that begin later; i is the place of the next packet

abbrev told_of : ℕ → Opened → ℕ → ℕ → ℕ → List Marked → List Form
told_of limit o at n i ps = pending limit (carrying o) at n ps ++ forms limit i ps

abbrev Claim : Journal → List Fed → Type 0
Claim j fs = (at n i : ℕ) → at + n ≡ i → Told at (journal_records j fs) (told_of j.settings.limit j.opened at n i (packets j fs))

-- after the end nothing follows
stops : (fs : List Fed) (j : Journal) (limit : ℕ) (o : Opened) (at n i : ℕ) → j.ended ≡ true
    → Told at (journal_records j fs) (told_of limit o at n i (packets j fs))
stops fs j limit o at n i e =
    simp (ended-packets fs j e, pending-none limit (carrying o) at n) (record { same = ended-records fs j e; apart = tt })

-- ---- a packet

is_put : (o : Opcode) → same_opcode o Put ≡ true → o ≡ Put
unfolding same_opcode
is_put Connect e = absurd (false≢true e)
is_put Disconnect e = absurd (false≢true e)
is_put Put e = refl
is_put Get e = absurd (false≢true e)
is_put SetPath e = absurd (false≢true e)
is_put Action e = absurd (false≢true e)
is_put Session e = absurd (false≢true e)
is_put Abort e = absurd (false≢true e)
is_put (UserDefined x) e = absurd (false≢true e)

put-put : same_opcode Put Put ≡ true
unfolding same_opcode
put-put = refl

put_abort : same_opcode Put Abort ≡ false
unfolding same_opcode
put_abort = refl

-- what a journal makes of a packet where o is open
abbrev read_at : Opened → Option Request → Journal → Entry
read_at o q j = packet_read q (opens j o)

packet_at : (j : Journal) (p : List ℕ) → journal_packet j p ≡ read_at j.opened (request_of p) j
unfolding journal_packet
packet_at j p = refl

-- ---- a packet, given what follows

module _ (j : Journal) (fs : List Fed) (h : j.ended ≡ false) (ih : (d : Journal) → d.ended ≡ false → Claim d fs) (i : ℕ) where
  abbrev limit : ℕ
  limit = j.settings.limit

  -- what a packet gives, with the forms l that began up to here, and what follows
  abbrev Goal : ℕ → Entry → List Form → Type 0
  Goal at x l = Told at (x.given ++ journal_records x.next fs) (l ++ forms limit (i + 1) (packets x.next fs))

  -- packets of which no form comes: afterwards no Put is open, or the journal has ended
  module _ (at : ℕ) (late : at ≤ i) where
    calm : (r : Option Request) (o : Opened) → carrying o ≡ none → Goal at (unchanged (after j r o)) []
    calm r o e = sooner (omega arith) (simp e at (ih (after j r o) h (i + 1) 0 (i + 1) (omega arith)))

    halts : (o : Opened) → Goal at (stopped (opens j o)) []
    halts o = stops fs (end (opens j o)) limit nothing at 0 (i + 1) refl

    ends : (o : Opened) → Goal at (ends_with 4 (opens j o)) []
    ends o = stops fs (end (opens j o)) limit nothing at 0 (i + 1) refl

    either_way : (t : Bool) (x y : Entry) → Goal at x [] → Goal at y [] → Goal at (pick t x y) []
    either_way true x y a b = a
    either_way false x y a b = b

    drops : (r : Request) → Goal at (dropped j r) []
    drops r = calm (some r) nothing refl

    turns_away : (r : Request) → Goal at (turned_away j r) []
    turns_away r = calm (some r) _ (carrying-pick (j.standing.srm && not r.final) _ _ refl refl)

    gathers : (r : Request) (o : Opcode) (k : List ℕ) → Goal at (gather_read j r o k) []
    gathers r o k = calm (some r) _ (carrying-pick r.final _ _ refl refl)

    opens_or : (r : Request) (x y : Entry) → Goal at x [] → Goal at y [] → Goal at (pick (admitted j.settings j.standing r) x y) []
    opens_or r x y a b = either_way (admitted j.settings j.standing r) x y a b

    -- a Connect, stopped or not, opens nothing
    connects : (u : Opened) (r : Request) → Goal at (connect_read (opens j u) r) []
    connects u r =
        sooner (omega arith)
        (ih (after (stands j (pick (is_stopped j.settings j.standing r) (with_check j.standing stop) j.standing)) (some r) nothing) h
        (i + 1) 0 (i + 1) (omega arith))

    -- no Put, with no operation open
    first-other : (u : Opened) (o : Opcode) (r : Request) → same_opcode o Put ≡ false → Goal at (first_read o (opens j u) r) []
    unfolding first_read
    first-other u Connect r e = connects u r
    first-other u Disconnect r e = drops r
    first-other u Put r e = absurd (false≢true (sym e ∙ put-put))
    first-other u Get r e = opens_or r _ _ (calm (some r) (getting (kept_by_get r.headers)) refl) (turns_away r)
    first-other u SetPath r e = drops r
    first-other u Action r e = opens_or r _ _ (gathers r Action (all_bytes r.headers)) (drops r)
    first-other u Session r e = opens_or r _ _ (gathers r Session (all_bytes r.headers)) (drops r)
    first-other u Abort r e = drops r
    first-other u (UserDefined x) r e = opens_or r _ _ (gathers r (UserDefined x) (all_bytes r.headers)) (drops r)

    -- any packet, inside an operation whose requests come to no form
    inside : (o : Opened) (q : Option Request) → busy o ≡ true → ((r : Request) → Goal at (request_read o (opens j o) r) [])
        → Goal at (read_at o q j) []
    inside o none b w = simp b (ends o)
    inside o (some r) b w = go (same_opcode r.opcode Abort) refl
      where
        go : (t : Bool) → same_opcode r.opcode Abort ≡ t → Goal at (read_at o (some r) j) []
        go true e = simp e (drops r)
        go false e = simp e (w r)

  -- a Put packet p of a Put that began at `at`; its n packets before this one carry c
  module _ (at n : ℕ) (place : at + n ≡ i) (p : List ℕ) (r : Request) (k : request_of p ≡ some r) (e : same_opcode r.opcode Put ≡ true)
      (o : Opened) (c : Record) (srm next : Bool) where
    abbrev total : Record
    total = joined c (carried_by r.headers)

    -- the last packet, within the limit; and one that goes on
    found : Goal at (record { next = after j (some r) nothing; given = total ∷ []; number = none })
        (record { first = at; count = n + 1; given = total } ∷ [])
    found =
        let w : Told (at + (n + 1)) _ _ = sooner (omega arith) (ih (after j (some r) nothing) h (i + 1) 0 (i + 1) (omega arith)) in
        record { same = ap (λ (l : List Record). total ∷ l) w.same; apart = (omega arith, w.apart) }

    goes_on : Goal at (unchanged (after j (some r) (putting total next)))
        (run limit at (n + 1) total (packets (after j (some r) (putting total next)) fs))
    goes_on = ih (after j (some r) (putting total next)) h at (n + 1) (i + 1) (omega arith)

    abbrev Followed : Type 0
    Followed =
        Goal at (put_read (opens j o) r srm next total)
        (run limit at n c (record { before = j; bytes = p } ∷ packets (put_read (opens j o) r srm next total).next fs))

    follows : Followed
    unfolding put_read readable_put is_final carried_in
    follows = go r.final (leb (size_of total) limit) srm refl refl refl
      where
        go : (t u v : Bool) → r.final ≡ t → leb (size_of total) limit ≡ u → srm ≡ v → Followed
        go true true v f g s = simp (k, e, f, g) found
        go true false v f g s = simp (k, e, f, g) (drops at (omega arith) r)
        go false true v f g s = simp (k, e, f, g) goes_on
        go false false true f g s = simp (k, e, f, g, s) goes_on
        go false false false f g s =
            simp (k, e, f, g, s, past limit at (n + 1) total (packets (after j (some r) (overrun j.settings)) fs) (leb-false _ _ g))
            (calm at (omega arith) (some r) _ (carrying-pick j.settings.refuses _ _ refl refl))

  -- the forms before the next packet are that of an open Put, or begin at p
  abbrev Here : List ℕ → Opened → ℕ → ℕ → Bool → Entry → Type 0
  Here p o at n ended x =
      Told at (x.given ++ journal_records x.next fs)
      (pending limit (carrying o) at n (record { before = j; bytes = p } ∷ packets x.next fs)
      ++ (pick (not (busy o) && (not ended && (admits j p && not (is_trailing o && trails_request (request_of p)))))
      (run limit i 0 bare (record { before = j; bytes = p } ∷ packets x.next fs)) []
      ++ forms limit (i + 1) (packets x.next fs)))

  module _ (p : List ℕ) (at n : ℕ) (place : at + n ≡ i) where
    late : at ≤ i
    late = omega arith

    -- a request with no operation open, u being `nothing` or `trailing`, that is judged as the first of an operation
    abbrev Judged : Opened → Request → Type 0
    Judged u r =
        let x = pick (same_opcode r.opcode Abort) (dropped j r) (first_read r.opcode (opens j u) r) in
        Told at (x.given ++ journal_records x.next fs)
        (pick (admits j p && true) (run limit i 0 bare (record { before = j; bytes = p } ∷ packets x.next fs)) []
        ++ forms limit (i + 1) (packets x.next fs))

    judged : (u : Opened) (r : Request) → request_of p ≡ some r → Judged u r
    unfolding readable_put admits first_read
    judged u r k = go (same_opcode r.opcode Put) (admitted j.settings j.standing r) refl refl
      where
        other : same_opcode r.opcode Put ≡ false
            → Goal at (pick (same_opcode r.opcode Abort) (dropped j r) (first_read r.opcode (opens j u) r)) []
        other e = either_way at late (same_opcode r.opcode Abort) _ _ (drops at late r) (first-other at late u r.opcode r e)

        go : (t a : Bool) → same_opcode r.opcode Put ≡ t → admitted j.settings j.standing r ≡ a → Judged u r
        go false true e f = simp (k, e, f) (other e)
        go false false e f = simp (k, e, f) (other e)
        go true false e f = simp (k, f, is_put r.opcode e, put_abort) (turns_away at late r)
        go true true e f =
            let w = follows i 0 (omega arith) p r k e u bare j.standing.srm (j.standing.srm || asks_srm j.settings r.headers) in
            simp (k, f, is_put r.opcode e, put-put, put_abort) (simp (k, is_put r.opcode e, put-put) at (sooner late w))

    -- by what is open
    with_nothing : (q : Option Request) → request_of p ≡ q → Here p nothing at n false (read_at nothing q j)
    unfolding admits
    with_nothing none k = simp k (calm at late none nothing refl)
    with_nothing (some r) k = judged nothing r k

    with_trailing : (q : Option Request) → request_of p ≡ q → Here p trailing at n false (read_at trailing q j)
    unfolding admits
    with_trailing none k = simp k (calm at late none trailing refl)
    with_trailing (some r) k = go (trails r) (same_opcode r.opcode Abort) refl refl
      where
        go : (t a : Bool) → trails r ≡ t → same_opcode r.opcode Abort ≡ a → Here p trailing at n false (read_at trailing (some r) j)
        go false a e f = simp (k, e) (simp k at (judged trailing r k))
        go true true e f = simp (k, e, f, and-false (admitted j.settings j.standing r)) (drops at late r)
        go true false e f =
            simp (k, e, f, and-false (admitted j.settings j.standing r)) (calm at late (some r) _ (carrying-pick r.final _ _ refl refl))

    in_a_put : (c : Record) (s : Bool) (q : Option Request) → request_of p ≡ q → Here p (putting c s) at n false (read_at (putting c s) q j)
    unfolding readable_put
    in_a_put c s none k = simp k (ends at late (putting c s))
    in_a_put c s (some r) k = go (same_opcode r.opcode Put) (same_opcode r.opcode Abort) refl refl
      where
        go : (t a : Bool) → same_opcode r.opcode Put ≡ t → same_opcode r.opcode Abort ≡ a
            → Here p (putting c s) at n false (read_at (putting c s) (some r) j)
        go false true e f = simp (k, e, f) (drops at late r)
        go false false e f = simp (k, e, f) (halts at late (putting c s))
        go true a e f = simp (is_put r.opcode e, put-put, put_abort) (follows at n place p r k e (putting c s) c s s)

    packet-told : (o : Opened) → Here p o at n false (read_at o (request_of p) j)
    packet-told nothing = with_nothing (request_of p) refl
    packet-told trailing = with_trailing (request_of p) refl
    packet-told (putting c s) = in_a_put c s (request_of p) refl
    packet-told (getting k) =
        inside at late (getting k) (request_of p) refl
        (λ r. either_way at late (same_opcode r.opcode Get) _ _ (calm at late (some r) (getting (k ++ kept_by_get r.headers)) refl)
        (halts at late (getting k)))
    packet-told sending =
        inside at late sending (request_of p) refl
        (λ r. either_way at late (same_opcode r.opcode Get) _ _ (calm at late (some r) sending refl) (halts at late sending))
    packet-told (gathering o k) =
        inside at late (gathering o k) (request_of p) refl
        (λ r. either_way at late (same_opcode r.opcode o) _ _ (gathers at late r o (k ++ all_bytes r.headers)) (halts at late (gathering o k)))
    packet-told draining =
        inside at late draining (request_of p) refl
        (λ r. calm at late (some r) _ (carrying-pick r.final _ _ refl refl))

-- ---- a call, given what follows

module _ (j : Journal) (fs : List Fed) (h : j.ended ≡ false) (ih : (d : Journal) → d.ended ≡ false → Claim d fs) (at n i : ℕ)
    (place : at + n ≡ i) where
  -- what a call gives and reads, and what follows
  abbrev After : Entry → List Marked → Type 0
  After x l = Told at (x.given ++ journal_records x.next fs) (told_of j.settings.limit j.opened at n i (l ++ packets x.next fs))

  same-told : After (unchanged j) []
  same-told = ih j h at n i place

  ends-told : (k : ℕ) → After (ends_with k j) []
  ends-told k = stops fs (end j) j.settings.limit j.opened at n i refl

  read_told : (r : Read) → After (bytes_read j r) (read_in j r)
  unfolding is_trailed
  read_told (more q) = ih (begin j q) h at n i place
  read_told short = ends-told 3
  read_told (whole p) =
      subst (λ (x : Entry). After x (record { before = j; bytes = p } ∷ [])) (sym (packet_at j p))
      (subst (λ (t : Bool). Here j fs h ih i p j.opened at n t (read_at j.opened (request_of p) j)) (sym h)
      (packet-told j fs h ih i p at n place j.opened))

  -- an operation that is no Put closes, or becomes another
  moved_told : (o u : Opened) → j.opened ≡ o → carrying o ≡ none → carrying u ≡ none → After (unchanged (opens j u)) []
  moved_told o u e q r =
      subst (λ (c : Option Record). Told at (journal_records (opens j u) fs)
      (pending j.settings.limit c at n (packets (opens j u) fs) ++ forms j.settings.limit i (packets (opens j u) fs)))
      (r ∙ sym (ap carrying e ∙ q)) (ih (opens j u) h at n i place)

  -- Connect and Disconnect change what the journal stands at, and nothing that is open
  answer-told : (o : Opcode) (r : Request) (code : ℕ) (hs : List ℕ) → After (unchanged (reply_to o j r code hs)) []
  answer-told Connect r code hs = ih (reply_to Connect j r code hs) h at n i place
  answer-told Disconnect r code hs = ih (reply_to Disconnect j r code hs) h at n i place
  answer-told Put r code hs = same-told
  answer-told Get r code hs = same-told
  answer-told SetPath r code hs = same-told
  answer-told Action r code hs = same-told
  answer-told Session r code hs = same-told
  answer-told Abort r code hs = same-told
  answer-told (UserDefined x) r code hs = same-told

  last-told : (l : Option Request) (code : ℕ) (hs : List ℕ) → After (unchanged (reply_last l j code hs)) []
  last-told none code hs = same-told
  last-told (some r) code hs = answer-told r.opcode r code hs

  reply-told : (o : Opened) → j.opened ≡ o → (code : ℕ) (hs : List ℕ) → After (unchanged (replied o j code hs)) []
  reply-told nothing e code hs = last-told j.last code hs
  reply-told trailing e code hs = same-told
  reply-told (putting c s) e code hs = same-told
  reply-told (getting k) e code hs = moved_told (getting k) nothing e refl refl
  reply-told sending e code hs = same-told
  reply-told (gathering o k) e code hs = same-told
  reply-told draining e code hs = same-told

  sent-told : (o : Opened) → j.opened ≡ o → After (unchanged (object_sent o j)) []
  sent-told nothing e = same-told
  sent-told trailing e = same-told
  sent-told (putting c s) e = same-told
  sent-told (getting k) e = moved_told (getting k) sending e refl refl
  sent-told sending e = same-told
  sent-told (gathering o k) e = same-told
  sent-told draining e = same-told

  taken-told : (o : Opened) → j.opened ≡ o → (b : ℕ) → After (unchanged (taken_at o j b)) []
  taken-told nothing e b = same-told
  taken-told trailing e b = same-told
  taken-told (putting c s) e b = same-told
  taken-told (getting k) e b = same-told
  taken-told sending e b = go (eqb b 0x90)
    where
      go : (t : Bool) → After (unchanged (pick t j (opens j nothing))) []
      go true = same-told
      go false = moved_told sending nothing e refl refl
  taken-told (gathering o k) e b = same-told
  taken-told draining e b = same-told

  call-told : (c : Call) → After (journal_call j c) (call_reads j c)
  call-told (bytes_offered_of q) = read_told (read_up j.begun q)
  call-told stream_ended_of = ends-told (stream_number j.begun)
  call-told reply_taken_of = same-told
  call-told (reply_given_of code hs) = reply-told j.opened refl code hs
  call-told (object_given_of hs body) = sent-told j.opened refl
  call-told (body_given_of d) = same-told
  call-told body_failed_of = same-told
  call-told abort_acknowledged_of = same-told
  call-told (password_given_of p) = ih (stands j (password_checked j.standing (passes j p))) h at n i place
  call-told (nonce_given_of d l) = ih (stands j (challenged j.standing (octets16 d))) h at n i place
  call-told (credentials_given_of c) = same-told
  call-told (connections_closed_of l) = ih (stands j (closes j.standing l)) h at n i place

  fed-told : (f : Fed) → After (journal_fed j f) (fed_reads j f)
  fed-told no_step = same-told
  fed-told (step_by_of c) = simp h (call-told c)
  fed-told (reply_sent b) = simp h (taken-told j.opened refl b)

-- ---- a list of calls

claim : (fs : List Fed) (j : Journal) → j.ended ≡ false → Claim j fs
unfolding journal_step
claim [] j h at n i place = simp (pending-none j.settings.limit (carrying j.opened) at n) (record { same = refl; apart = tt })
claim (f ∷ fs) j h at n i place = fed-told j fs h (claim fs) at n i place f

-- for every list that a fresh journal is fed, its records are exactly those of the Put forms among its packets
pub put-forms : PutForms
put-forms st fs =
    let w = claim fs (fresh st) refl 0 0 0 refl in
    let ps = packets (fresh st) fs in
    record {
      forms = forms st.limit 0 ps;
      records = w.same;
      each = forms-sound st.limit ps ps 0 refl;
      all = λ f k. forms_complete st.limit ps f k ps 0 refl (omega arith);
      apart = w.apart;
    }
