-- The log of some turns has the entries of their run, with the pieces of each packet joined: by induction over the turns, along the coupling of
-- engine and journal. Between two turns the packet store has in front what the journal has begun. Assumes nothing.
use mathlib.Core.Path.{◌≡◌, refl, sym, ap, ap₂, ◌∙◌, subst}
use mathlib.Core.Bool.{Bool, true, false, false≢true}
use mathlib.Core.List.{List, [], ◌∷◌, ◌++◌, append_assoc}
use mathlib.Core.Option.{Option, none, some}
use Prim.Native.Nat.{ℕ, zero, suc, ◌+◌, ◌≤◌, ◌<◌}
use native.Mathlib.Omega.{arith}
use borrow.Author.Tests.{ltb-true, ltb-false, le-leb}
use lib.Dec.{ltb, eqb}
use lib.ListN.{length, get_or, take}
use Rattle.base.specs.Pick.{pick}
use Rattle.packet.specs.Packet.{Request}
use Rattle.packet.specs.AuthWrite.{given}
use Rattle.digest.specs.Md5.{octets16}
use Rattle.incoming.specs.Frame.{framed}
use Rattle.packet.specs.declared.opcode.Opcode.{Opcode}
use Rattle.packet.specs.declared.opcode.Opcode.TheVariants as op
use Rattle.journal.specs.Calls.{Call, bytes_offered_of, stream_ended_of, reply_given_of, object_given_of, password_given_of, nonce_given_of, Verdict, goes, refused}
use Rattle.journal.specs.Journal.{Journal, Entry as Step, unchanged, begin, end, Opened, nothing, trailing, putting, getting, sending, gathering, draining, Read, more, whole, short, read_up, taken_up, bytes_read, reply_to, reply_last, replied, object_sent, taken_at, last_taken, journal_call, journal_fed, journal_step, fed_takes}
use Rattle.journal.proofs.Laws.{read-append, read_on}
use Rattle.server.specs.declared.Settings.{Settings}
use Rattle.server.specs.declared.Await.{Await}
use Rattle.server.specs.declared.Await.TheVariants as await
use Rattle.server.specs.declared.CallKind.{CallKind}
use Rattle.server.specs.declared.Operation.{Operation}
use Rattle.server.specs.declared.Outcome.{Outcome}
use Rattle.server.specs.declared.Outcome.TheVariants as outcome
use Rattle.model.specs.Guard.{same_await, fits}
use Rattle.model.specs.Refusals.{bytes, told, wait_number, Known, at_start, learns, verdict_of, fed_by}
use Rattle.model.specs.Runs.{State, Performed, called_in, next, OffersOctets, Says, step_of}
use Rattle.model.specs.Theorem.{journal_of}
use Rattle.model.proofs.Fit.{waits_of}
use Rattle.model.proofs.Coupling.{CoupledAt, Coupled}
use Rattle.model.proofs.Moments.{kind_of, same_await_lem, Agree}
use Rattle.model.proofs.Records.{Between, due_at, fed_to, performed-agrees, between_next, start_between}
use Rattle.filing.specs.Entries.{LogEntry, received, sent, answered, object, checked, nonce, ended, entry_step, Handed, Joins, nothing as joins-nothing, keep, join}
use Rattle.filing.specs.Contents.{entry_by}
use Rattle.filing.specs.declared.content.Event.TheVariants.{Broken, Received, Ended}
use Rattle.filing.proofs.Pieces.{pieces, taken-reads}
use Rattle.reception.specs.Received.{last_right, noted_by, noted_at, notes, handed_at}
use Rattle.reception.specs.Notes.{is_refused, is_unfinished, is_too_small, is_end, end_number_at, total, packet_event, packet_note, note_by, note_entries, pending, logged_at}
use Rattle.reception.specs.Turns.{ReceiverTurn, turned, Turns, calls_made, state_after, entries_made, held_in, TurnsReceive}
use Rattle.reception.specs.Answers.{is_password_known, call_of}
use Rattle.reception.specs.declared.answer.Answer.{Answer}
use Rattle.reception.specs.declared.answer.Answer.TheVariants as answer
use Rattle.reception.specs.declared.note.Note.TheVariants as note
use Rattle.reception.specs.declared.note.Part.TheVariants as part
use Rattle.reception.proofs.Password.{password-word}
use Rattle.reception.proofs.Begun.{more-all, begun_by, read-begun}
use Rattle.reception.proofs.Framing.{begun_is, front_is}
use Rattle.reception.proofs.Offered.{goes_is, Offered, offer_is}
use Rattle.reception.proofs.Turned.{ran_of, received_of}

-- ---- what is held

held-other : (s : State) → same_await s.engine.awaits await.Bytes ≡ false → held_in s ≡ []
unfolding held_in
held-other s e = ap (λ (b : Bool). pick b (take s.engine.begun s.stores.packet) []) e

held_bytes : (s : State) → s.engine.awaits ≡ await.Bytes → held_in s ≡ take s.engine.begun s.stores.packet
unfolding held_in
held_bytes s e = ap (λ (a : Await). pick (same_await a await.Bytes) (take s.engine.begun s.stores.packet) []) e

begun_at : (s : State) (j : Journal) → s.engine.awaits ≡ await.Bytes → Coupled s.tables s.engine s.stores j
    → (j.begun ≡ take s.engine.begun s.stores.packet) × (j.ended ≡ false)
begun_at s j a c =
    let e = s.engine in
    let y = subst (λ (x : Await). CoupledAt s.tables x e.operation e.settings e.peer e.begun e.length s.stores j) a c in
    (y.begun, y.fixed.ended)

held-begun : (s : State) (j : Journal) → Coupled s.tables s.engine s.stores j
    → (same_await s.engine.awaits await.Bytes ≡ false → j.begun ≡ []) → held_in s ≡ j.begun
held-begun s j c f = go (same_await s.engine.awaits await.Bytes) refl
  where
    go : (b : Bool) → same_await s.engine.awaits await.Bytes ≡ b → held_in s ≡ j.begun
    go true e = let a = same_await_lem s.engine.awaits await.Bytes e in held_bytes s a ∙ sym (begun_at s j a c).0
    go false e = held-other s e ∙ sym (f e)

-- a call that is not the peer's comes while other things are awaited
apart : (k : CallKind) (a : Await) → fits k await.Bytes ≡ false → fits k a ≡ true → same_await a await.Bytes ≡ false
apart k a n h = go (same_await a await.Bytes) refl
  where
    go : (t : Bool) → same_await a await.Bytes ≡ t → same_await a await.Bytes ≡ false
    go true i = absurd (false≢true (sym n ∙ ap (fits k) (sym (same_await_lem a await.Bytes i)) ∙ h))
    go false i = i

-- bytes are wanted only if they are awaited
bytes-wait : (a : Await) (o : Operation) → bytes ≡ waits_of a o → a ≡ await.Bytes
bytes-wait a o e = by a (ap wait_number e)
  where
    by : (x : Await) → 0 ≡ wait_number (waits_of x o) → x ≡ await.Bytes
    by await.Bytes n = refl
    by await.Taken n = absurd (omega (arith, n))
    by await.Last n = absurd (omega (arith, n))
    by await.Connect n = absurd (omega (arith, n))
    by await.Disconnect n = absurd (omega (arith, n))
    by await.Get n = absurd (omega (arith, n))
    by await.Reply n = absurd (omega (arith, n))
    by await.Acknowledgement n = absurd (omega (arith, n))
    by await.Password n = absurd (omega (arith, n))
    by await.Nonce n = absurd (omega (arith, n))
    by await.Credentials n = absurd (omega (arith, n))
    by await.Body n = absurd (omega (arith, n))
    by await.Nothing n = absurd (omega (arith, n))

-- ---- the joints

-- what a call adds: the entries `x` of the run and `l` of the log, from the journal `j` to `k`
abbrev Advances : Journal → Journal → List LogEntry → List LogEntry → Type 0
Advances j k x l =
    (n m : List LogEntry) → Joins (begin k []) (pending k.begun ++ n) m → Joins (begin j []) (pending j.begun ++ (x ++ n)) (l ++ m)

abbrev Fresh : Journal → Type 0
Fresh j = read_up [] j.begun ≡ more j.begun

record Advance (s : State) (j k : Journal) (x l : List LogEntry) : Type 0 where
  joins : Advances j k x l
  begun : same_await s.engine.awaits await.Bytes ≡ false → k.begun ≡ []
  fresh : Fresh k

fresh-none : (k : Journal) → k.begun ≡ [] → Fresh k
unfolding read_up
fresh-none k e = ap₂ (λ (a b : List ℕ). read_up [] a) e e ∙ ap more (sym e)

begin_self : (j : Journal) → j.begun ≡ [] → begin j [] ≡ j
begin_self j e = ap (begin j) (sym e)

-- nothing is added
idle : (s : State) (j k : Journal) → k ≡ j → (same_await s.engine.awaits await.Bytes ≡ false → j.begun ≡ []) → Fresh j → Advance s j k [] []
idle s j k e f r =
    subst (λ (x : Journal). Advance s j x [] []) (sym e) (record { joins = λ n m z. z; begun = f; fresh = r })

-- one entry is added to both, with nothing begun before and after
single : (s : State) (j k : Journal) (e : LogEntry) → j.begun ≡ [] → k.begun ≡ [] → (entry_step j e).next ≡ k → Advance s j k (e ∷ []) (e ∷ [])
single s j k e p q f =
    let back : begin k [] ≡ (entry_step (begin j []) e).next =
    begin_self k q ∙ sym f ∙ ap (λ (x : Journal). (entry_step x e).next) (sym (begin_self j p)) in
    record {
      joins = λ n m z.
          subst (λ (h : List ℕ). Joins (begin j []) (pending h ++ (e ∷ n)) (e ∷ m)) (sym p)
          (keep e (subst (λ (x : Journal). Joins x n m) back (subst (λ (h : List ℕ). Joins (begin k []) (pending h ++ n) m) q z)));
      begun = λ u. q;
      fresh = fresh-none k q;
    }

-- a piece joins what was held
join_in : (j : Journal) (h i : List ℕ) (n m : List LogEntry) → j.ended ≡ false → read_up [] h ≡ more h
    → Joins (begin j []) (received (h ++ i) ∷ n) m → Joins (begin j []) (pending h ++ (received i ∷ n)) m
join_in j [] i n m w r z = z
join_in j (b ∷ l) i n m w r z = join (b ∷ l) i (b ∷ l) w r z

-- ---- bytes

module _ (s z : State) (j k : Journal) (i : List ℕ) (live : j.ended ≡ false) (fresh : Fresh j)
    (next_is : k ≡ (entry_step j (received i)).next) where
  both : (entry_step (begin j []) (received (j.begun ++ i))).next ≡ k
  both = ap (λ (x : Step). x.next) (pieces (begin j []) j.begun i j.begun live fresh) ∙ sym next_is

  -- the packet has come
  packet-joins : k.begun ≡ [] → Advances j k (received i ∷ []) (received (j.begun ++ i) ∷ [])
  packet-joins q n m y =
      join_in j j.begun i n (received (j.begun ++ i) ∷ m) live fresh
      (keep (received (j.begun ++ i))
      (subst (λ (x : Journal). Joins x n m) (begin_self k q ∙ sym both)
      (subst (λ (h : List ℕ). Joins (begin k []) (pending h ++ n) m) q y)))

  -- the packet goes on
  piece-joins : (b : ℕ) (l : List ℕ) → j.begun ++ i ≡ b ∷ l → k ≡ begin j (j.begun ++ i) → Advances j k (received i ∷ []) []
  piece-joins b l q e n m y =
      join_in j j.begun i n m live fresh
      (subst (λ (h : List ℕ). Joins (begin j []) (received h ∷ n) m) (sym q)
      (subst (λ (x : Journal). Joins (begin x []) (pending x.begun ++ n) m) (e ∙ ap (begin j) q) y))

-- ---- what a call that is no offer does to the journal

same_next : (t : Bool) (j : Journal) → (pick t (unchanged j) (unchanged j)).next ≡ j
same_next true j = refl
same_next false j = refl

begun-pick : (t : Bool) (j : Journal) (y : Step) → y.next.begun ≡ j.begun → (pick t (unchanged j) y).next.begun ≡ j.begun
begun-pick true j y e = refl
begun-pick false j y e = e

begun_either : (t : Bool) (a b : Journal) (l : List ℕ) → a.begun ≡ l → b.begun ≡ l → (pick t a b).begun ≡ l
begun_either true a b l e f = e
begun_either false a b l e f = f

taken-begun : (o : Opened) (j : Journal) (b : ℕ) → (taken_at o j b).begun ≡ j.begun
taken-begun sending j b = begun_either (eqb b 0x90) _ _ j.begun refl refl
taken-begun nothing j b = refl
taken-begun trailing j b = refl
taken-begun (putting c s) j b = refl
taken-begun (getting k) j b = refl
taken-begun (gathering o k) j b = refl
taken-begun draining j b = refl

to_begun : (o : Opcode) (j : Journal) (r : Request) (code : ℕ) (hs : List ℕ) → (reply_to o j r code hs).begun ≡ j.begun
to_begun op.Connect j r code hs = refl
to_begun op.Disconnect j r code hs = refl
to_begun op.Put j r code hs = refl
to_begun op.Get j r code hs = refl
to_begun op.SetPath j r code hs = refl
to_begun op.Action j r code hs = refl
to_begun op.Session j r code hs = refl
to_begun op.Abort j r code hs = refl
to_begun (op.UserDefined x) j r code hs = refl

last-begun : (l : Option Request) (j : Journal) (code : ℕ) (hs : List ℕ) → (reply_last l j code hs).begun ≡ j.begun
last-begun none j code hs = refl
last-begun (some r) j code hs = to_begun r.opcode j r code hs

replied-begun : (o : Opened) (j : Journal) (code : ℕ) (hs : List ℕ) → (replied o j code hs).begun ≡ j.begun
replied-begun nothing j code hs = last-begun j.last j code hs
replied-begun (getting k) j code hs = refl
replied-begun trailing j code hs = refl
replied-begun (putting c s) j code hs = refl
replied-begun sending j code hs = refl
replied-begun (gathering o k) j code hs = refl
replied-begun draining j code hs = refl

object-begun : (o : Opened) (j : Journal) → (object_sent o j).begun ≡ j.begun
object-begun (getting k) j = refl
object-begun nothing j = refl
object-begun trailing j = refl
object-begun (putting c s) j = refl
object-begun sending j = refl
object-begun (gathering o k) j = refl
object-begun draining j = refl

sent-begun : (t : Bool) (j : Journal) (b : ℕ) → (pick t (last_taken j) (unchanged (taken_at j.opened j b))).next.begun ≡ j.begun
sent-begun true j b = refl
sent-begun false j b = taken-begun j.opened j b

-- ---- flags

goes-flag : (o : Outcome) → verdict_of o ≡ goes → is_refused o ≡ false
goes-flag (outcome.Refused r) e = absurd (let z : ◌≡◌ {A = ℕ} 0 1 = cc in omega arith)
goes-flag outcome.WantsBytes e = refl
goes-flag (outcome.Reply n) e = refl
goes-flag (outcome.Request r) e = refl
goes-flag (outcome.End n) e = refl

refused-flag : (o : Outcome) (n : ℕ) → verdict_of o ≡ refused n → is_refused o ≡ true
refused-flag (outcome.Refused r) n e = refl
refused-flag outcome.WantsBytes n e = absurd (let z : ◌≡◌ {A = ℕ} 0 1 = cc in omega arith)
refused-flag (outcome.Reply m) n e = absurd (let z : ◌≡◌ {A = ℕ} 0 1 = cc in omega arith)
refused-flag (outcome.Request r) n e = absurd (let z : ◌≡◌ {A = ℕ} 0 1 = cc in omega arith)
refused-flag (outcome.End m) n e = absurd (let z : ◌≡◌ {A = ℕ} 0 1 = cc in omega arith)

unfinished_is : (o : Outcome) (n : ℕ) → is_unfinished o n ≡ true → (o ≡ outcome.WantsBytes) × (ltb 0 n ≡ true)
unfinished_is outcome.WantsBytes n e = (refl, e)
unfinished_is (outcome.Refused r) n e = absurd (false≢true e)
unfinished_is (outcome.Reply m) n e = absurd (false≢true e)
unfinished_is (outcome.Request r) n e = absurd (false≢true e)
unfinished_is (outcome.End m) n e = absurd (false≢true e)

-- ---- lists

cons-none : (b : ℕ) (l : List ℕ) → [] ≡ b ∷ l → ⊥
cons-none b l e = let n : 0 ≡ length (b ∷ l) = ap length e in omega (arith, n)

pub record Cons (l : List ℕ) : Type 0 where
  first : ℕ
  rest : List ℕ
  is : l ≡ first ∷ rest

some_first : (n : ℕ) (p : List ℕ) → 0 < n → 0 < length p → Cons (take n p)
some_first zero p h k = absurd (omega (arith, h))
some_first (suc n) [] h k = absurd (omega (arith, k))
some_first (suc n) (y ∷ ys) h k = record { first = y; rest = take n ys; is = refl }

-- ---- one call

module _ (st : Settings) (w : Known) (s : State) (j : Journal) (b : Between st w s j) (a : Answer) (lent : List ℕ)
    (o : OffersOctets (call_of a lent)) (h : held_in s ≡ j.begun) (fresh : Fresh j) where
  abbrev c : Call
  c = call_of a lent

  abbrev t : ReceiverTurn
  t = record { attempts = []; answer = a; lent = lent }

  abbrev x : Performed
  x = turned s t

  says : Says s x.call (step_of s c)
  says = record { step = refl; octets = o }

  abbrev byte : ℕ
  byte = get_or s.stores.reply 0 0

  abbrev k : Journal
  k = (journal_step j (fed_to st w s j b x says)).next

  agree : Agree w s x.call (due_at st w s j b x says) (called_in x)
  agree = performed-agrees st w s j b x says

  after : Between st (learns w x.call x.result.outcome) (next x) k
  after = between_next st w s j b x says

  abbrev Makes : List LogEntry → List LogEntry → Type 0
  Makes n l = Advance (next x) j k n l

  -- ---- it is refused

  at_refused : (n : ℕ) → verdict_of x.result.outcome ≡ refused n → Makes (noted_at s x) (logged_at s a x)
  unfolding journal_step
  at_refused n v =
      let due = sym agree.due ∙ v in
      let flag = refused-flag x.result.outcome n v in
      let same : k ≡ j = ap (λ (u : Verdict). (journal_fed j (fed_by u c byte)).next) due in
      let stays : next x ≡ s = agree.unmoved n due in
      subst (λ (l : List LogEntry). Makes l (logged_at s a x)) (sym (ap (λ (u : Verdict). noted_by u c byte x.result) v))
      (subst (λ (l : List LogEntry). Makes [] l)
      (sym (ap (λ (f : Bool). pending (take (pick f 0 (pick (is_end a) s.engine.begun 0)) s.stores.packet)
      ++ note_entries (pick f note.Nothing (note_by a s.engine.begun x.result)) s.stores x.stores) flag))
      (idle (next x) j k same
      (λ u. sym h ∙ held-other s (subst (λ (y : State). same_await y.engine.awaits await.Bytes ≡ false) stays u)) fresh))

  -- ---- it goes

  module _ (g : verdict_of x.result.outcome ≡ goes) where
    k_is : k ≡ (journal_fed j (fed_by goes c byte)).next
    unfolding journal_step
    k_is = ap (λ (u : Verdict). (journal_fed j (fed_by u c byte)).next) (sym agree.due ∙ g)

    -- what the log gets
    abbrev Logged : List LogEntry
    Logged =
        pending (take (pick (is_end a) s.engine.begun 0) s.stores.packet)
        ++ note_entries (note_by a s.engine.begun x.result) s.stores x.stores

    makes : Makes (noted_by goes c byte x.result) Logged → Makes (noted_at s x) (logged_at s a x)
    makes m =
        subst (λ (l : List LogEntry). Makes l (logged_at s a x)) (sym (ap (λ (u : Verdict). noted_by u c byte x.result) g))
        (subst (λ (l : List LogEntry). Makes (noted_by goes c byte x.result) l)
        (sym (ap (λ (f : Bool). pending (take (pick f 0 (pick (is_end a) s.engine.begun 0)) s.stores.packet)
        ++ note_entries (pick f note.Nothing (note_by a s.engine.begun x.result)) s.stores x.stores)
        (goes-flag x.result.outcome g)))
        m)

    -- nothing is begun while the host is asked
    none-begun : fits (kind_of c) await.Bytes ≡ false → j.begun ≡ []
    none-begun n = sym h ∙ held-other s (apart (kind_of c) s.engine.awaits n (goes_is s c g).0)

    entry : (e : LogEntry) → fits (kind_of c) await.Bytes ≡ false → (journal_fed j (fed_by goes c byte)).next.begun ≡ j.begun
        → (entry_step j e).next ≡ (journal_fed j (fed_by goes c byte)).next → Makes (e ∷ []) (e ∷ [])
    entry e n q f =
        let p = none-begun n in
        single (next x) j k e p (ap (λ (y : Journal). y.begun) k_is ∙ q ∙ p) (f ∙ sym k_is)

    silent : fits (kind_of c) await.Bytes ≡ false → (journal_fed j (fed_by goes c byte)).next ≡ j → Makes [] []
    silent n q = idle (next x) j k (k_is ∙ q) (λ u. none-begun n) fresh

    awaited : fits (kind_of c) s.engine.awaits ≡ same_await s.engine.awaits await.Bytes → s.engine.awaits ≡ await.Bytes
    awaited e = same_await_lem s.engine.awaits await.Bytes (sym e ∙ (goes_is s c g).0)

-- ---- the end of the stream

end-entry : (n : ℕ) → entry_by (Ended (end_number_at n)) [] ≡ ended ∷ []
end-entry n = go (eqb n 0)
  where
    go : (t : Bool) → entry_by (Ended (pick t 1 2)) [] ≡ ended ∷ []
    go true = refl
    go false = refl

step_end : (j : Journal) → j.ended ≡ false → (entry_step j ended).next ≡ end j
unfolding entry_step
step_end j e = ap (λ (t : Bool). (pick t (unchanged j) (journal_call j stream_ended_of)).next) e

step-held : (j : Journal) (p : List ℕ) → j.ended ≡ false → read_up j.begun p ≡ more p → (entry_step j (received p)).next ≡ begin j p
unfolding entry_step
step-held j p e r =
    ap (λ (t : Bool). (pick t (unchanged j) (bytes_read j (read_up j.begun p))).next) e ∙ ap (λ (y : Read). (bytes_read j y).next) r

end-joins : (j : Journal) (p : List ℕ) (n m : List LogEntry) → j.ended ≡ false → read_up [] p ≡ more p → Joins (end j) n m
    → Joins (begin j []) (pending p ++ (ended ∷ n)) ((pending p ++ (ended ∷ [])) ++ m)
end-joins j [] n m e r z = keep ended (subst (λ (y : Journal). Joins y n m) (sym (step_end (begin j []) e)) z)
end-joins j (b ∷ l) n m e r z =
    keep (received (b ∷ l))
    (subst (λ (y : Journal). Joins y (ended ∷ n) (ended ∷ m)) (sym (step-held (begin j []) (b ∷ l) e r))
    (keep ended (subst (λ (y : Journal). Joins y n m) (sym (step_end (begin j (b ∷ l)) e)) z)))

module _ (st : Settings) (w : Known) (s : State) (j : Journal) (b : Between st w s j) (h : held_in s ≡ j.begun) (fresh : Fresh j)
    (g : verdict_of (step_of s stream_ended_of).took.outcome ≡ goes) where
  end-made : let x = turned s (record { attempts = []; answer = answer.End; lent = [] }) in
      Makes st w s j b answer.End [] tt h fresh (ended ∷ []) (Logged st w s j b answer.End [] tt h fresh g)
  end-made =
      let at = awaited st w s j b answer.End [] tt h fresh g refl in
      let c = begun_at s j at b.coupled in
      let is : k st w s j b answer.End [] tt h fresh ≡ end j =
      k_is st w s j b answer.End [] tt h fresh g
      ∙ ap (λ (t : Bool). (pick t (unchanged j) (journal_call j stream_ended_of)).next) c.1 in
      let log : Logged st w s j b answer.End [] tt h fresh g ≡ pending j.begun ++ (ended ∷ []) =
      ap₂ (λ (l : List ℕ) (e : List LogEntry). pending l ++ e) (sym c.0) (end-entry s.engine.begun) in
      subst (λ (l : List LogEntry). Makes st w s j b answer.End [] tt h fresh (ended ∷ []) l) (sym log)
      (record {
        joins = λ n m z.
            end-joins j j.begun n m c.1 fresh (subst (λ (y : Journal). Joins (begin y []) (pending y.begun ++ n) m) is z);
        begun = λ u. ap (λ (y : Journal). y.begun) is;
        fresh = fresh-none (k st w s j b answer.End [] tt h fresh) (ap (λ (y : Journal). y.begun) is);
      })

-- ---- an offer

total_is : (a b : ℕ) → a + b ≤ 65535 → total a b ≡ a + b
unfolding total
total_is a b h = simp (le-leb (a + b) 65535 h)

event-entry : (o : Outcome) (p : List ℕ) → entry_by (packet_event o) p ≡ received p ∷ []
event-entry o p = go (is_too_small o)
  where
    go : (t : Bool) → entry_by (pick t Broken Received) p ≡ received p ∷ []
    go true = refl
    go false = refl

module _ (st : Settings) (w : Known) (s : State) (j : Journal) (b : Between st w s j) (i : List ℕ) (o : OffersOctets (bytes_offered_of i))
    (h : held_in s ≡ j.begun) (fresh : Fresh j) (g : verdict_of (step_of s (bytes_offered_of i)).took.outcome ≡ goes) where
  abbrev X : Performed
  X = x st w s j b answer.Offer i o h fresh

  abbrev K : Journal
  K = k st w s j b answer.Offer i o h fresh

  abbrev Next : Between st (learns w (bytes_offered_of i) X.result.outcome) (next X) K
  Next = after st w s j b answer.Offer i o h fresh

  at : s.engine.awaits ≡ await.Bytes
  at = awaited st w s j b answer.Offer i o h fresh g refl

  is : j.begun ≡ take s.engine.begun s.stores.packet
  is = (begun_at s j at b.coupled).0

  live : j.ended ≡ false
  live = (begun_at s j at b.coupled).1

  off : Offered s i (step_of s (bytes_offered_of i))
  off =
      offer_is s b.seated i o at (subst (λ (l : List ℕ). read_up [] l ≡ more l) is fresh) (step_of s (bytes_offered_of i))
      (goes_is s (bytes_offered_of i) g).1

  abbrev piece : List ℕ
  piece = take X.result.taken i

  taken_is : X.result.taken ≡ taken_up j.begun i
  taken_is =
      let a = agree st w s j b answer.Offer i o h fresh in
      a.count j b.coupled
      ∙ ap (λ (u : Verdict). fed_takes j (fed_by u (bytes_offered_of i) (get_or s.stores.reply 0 0))) (sym a.due ∙ g)
      ∙ ap (λ (t : Bool). pick t 0 (taken_up j.begun i)) live

  k_reads : K ≡ (bytes_read j (read_up j.begun i)).next
  k_reads =
      k_is st w s j b answer.Offer i o h fresh g ∙ ap (λ (t : Bool). (pick t (unchanged j) (bytes_read j (read_up j.begun i))).next) live

  piece-reads : read_up j.begun piece ≡ read_up j.begun i
  piece-reads = ap (λ (n : ℕ). read_up j.begun (take n i)) taken_is ∙ taken-reads j.begun i

  piece-next : K ≡ (entry_step j (received piece)).next
  unfolding entry_step
  piece-next =
      k_reads
      ∙ sym (ap (λ (t : Bool). (pick t (unchanged j) (bytes_read j (read_up j.begun piece))).next) live
      ∙ ap (λ (r : Read). (bytes_read j r).next) piece-reads)

  k_begun : K.begun ≡ begun_by (read_up j.begun i)
  k_begun = ap (λ (y : Journal). y.begun) k_reads ∙ read-begun (read_up j.begun i) j

  wants_at : X.result.outcome ≡ outcome.WantsBytes → X.result.engine.awaits ≡ await.Bytes
  wants_at e =
      bytes-wait X.result.engine.awaits X.result.engine.operation
      (ap (λ (v : Outcome). told w.waits v) (sym e) ∙ Next.knows.waits)

  bytes_are : take (total s.engine.begun X.result.taken) X.stores.packet ≡ j.begun ++ piece
  bytes_are =
      let f = framed s.stores.packet s.engine.begun 0 i in
      let n = begun_is s.stores.packet i s.engine.begun in
      let small = off.small in
      let room = b.seated.sits.base.room.packet in
      let size : total s.engine.begun X.result.taken ≡ f.result.begun =
      total_is s.engine.begun X.result.taken (omega (arith, n, small, off.taken)) ∙ omega (arith, n, off.taken) in
      ap₂ (λ (m : ℕ) (l : List ℕ). take m l) size off.packet
      ∙ front_is s.stores.packet i s.engine.begun (omega (arith, small, room))
      ∙ ap₂ (λ (l : List ℕ) (m : ℕ). l ++ take m i) (sym is) (sym off.taken)

  abbrev unfinished : Bool
  unfinished = is_unfinished X.result.outcome X.result.engine.begun

  abbrev noted : Bool → List LogEntry
  noted t =
      note_entries (pick t note.Nothing (note.Event (packet_event X.result.outcome) (part.Packet (total s.engine.begun X.result.taken))))
      s.stores X.stores

  log_is : (t : Bool) → unfinished ≡ t → Logged st w s j b answer.Offer i o h fresh g ≡ noted t
  unfolding packet_note
  log_is t e = ap noted e

  -- the packet has come
  has_come : unfinished ≡ false → K.begun ≡ []
  has_come e = go (read_up j.begun i) refl k_begun
    where
      go : (r : Read) → read_up j.begun i ≡ r → K.begun ≡ begun_by r → K.begun ≡ []
      go (whole q) u f = f
      go short u f = f
      go (more q) u f =
          let v = off.wants q (ap (λ (l : List ℕ). read_up l i) (sym is) ∙ u) in
          let z : ltb 0 X.result.engine.begun ≡ false = sym (ap (λ (y : Outcome). is_unfinished y X.result.engine.begun) v) ∙ e in
          let n : X.result.engine.begun ≡ 0 = let y = ltb-false 0 X.result.engine.begun z in omega (arith, y) in
          (begun_at (next X) K (wants_at v) Next.coupled).0 ∙ ap (λ (m : ℕ). take m X.stores.packet) n

  come_made : unfinished ≡ false → Makes st w s j b answer.Offer i o h fresh (received piece ∷ []) (noted false)
  come_made e =
      let q = has_come e in
      subst (λ (l : List LogEntry). Makes st w s j b answer.Offer i o h fresh (received piece ∷ []) l)
      (sym (event-entry X.result.outcome _ ∙ ap (λ (l : List ℕ). received l ∷ []) bytes_are))
      (record { joins = packet-joins s s j K piece live fresh piece-next q; begun = λ u. q; fresh = fresh-none K q })

  -- the packet goes on
  on_made : unfinished ≡ true → Makes st w s j b answer.Offer i o h fresh (received piece ∷ []) []
  on_made e = go (read_up j.begun i) refl k_begun
    where
      wants : X.result.outcome ≡ outcome.WantsBytes
      wants = (unfinished_is X.result.outcome X.result.engine.begun e).0

      front : K.begun ≡ take X.result.engine.begun X.stores.packet
      front = (begun_at (next X) K (wants_at wants) Next.coupled).0

      some : Cons (take X.result.engine.begun X.stores.packet)
      some =
          let r = Next.seated.sits.base.room.packet in
          let z = ltb-true 0 X.result.engine.begun (unfinished_is X.result.outcome X.result.engine.begun e).1 in
          some_first X.result.engine.begun X.stores.packet z (omega (arith, r))

      awaits : same_await X.result.engine.awaits await.Bytes ≡ false → K.begun ≡ []
      awaits u = absurd (false≢true (sym u ∙ ap (λ (a : Await). same_await a await.Bytes) (wants_at wants)))

      go : (r : Read) → read_up j.begun i ≡ r → K.begun ≡ begun_by r
          → Makes st w s j b answer.Offer i o h fresh (received piece ∷ []) []
      go (whole q) u f = absurd (cons-none some.first some.rest (sym f ∙ front ∙ some.is))
      go short u f = absurd (cons-none some.first some.rest (sym f ∙ front ∙ some.is))
      go (more q) u f =
          let all : q ≡ j.begun ++ piece = more-all j.begun piece q (piece-reads ∙ u) in
          record {
            joins =
                piece-joins s s j K piece live fresh piece-next some.first some.rest (sym all ∙ sym f ∙ front ∙ some.is)
                (k_reads ∙ ap (λ (r : Read). (bytes_read j r).next) u ∙ ap (begin j) all);
            begun = awaits;
            fresh =
                ap (read_up []) (f ∙ all) ∙ read-append [] j.begun piece ∙ ap (λ (r : Read). read_on r piece) fresh ∙ piece-reads ∙ u
                ∙ ap more (sym f);
          }

  offer-made : Makes st w s j b answer.Offer i o h fresh (received piece ∷ []) (Logged st w s j b answer.Offer i o h fresh g)
  offer-made = go unfinished refl
    where
      go : (t : Bool) → unfinished ≡ t
          → Makes st w s j b answer.Offer i o h fresh (received piece ∷ []) (Logged st w s j b answer.Offer i o h fresh g)
      go true e =
          subst (λ (l : List LogEntry). Makes st w s j b answer.Offer i o h fresh (received piece ∷ []) l) (sym (log_is true e)) (on_made e)
      go false e =
          subst (λ (l : List LogEntry). Makes st w s j b answer.Offer i o h fresh (received piece ∷ []) l) (sym (log_is false e)) (come_made e)

-- ---- any call

module _ (st : Settings) (w : Known) (s : State) (j : Journal) (b : Between st w s j) (lent : List ℕ) (h : held_in s ≡ j.begun)
    (fresh : Fresh j) where
  abbrev byte_at : ℕ
  byte_at = get_or s.stores.reply 0 0

  abbrev Moves : Answer → Type 0
  Moves a =
      (o : OffersOctets (call_of a lent)) → verdict_of (step_of s (call_of a lent)).took.outcome ≡ goes
      → Makes st w s j b a lent o h fresh (noted_at s (x st w s j b a lent o h fresh)) (logged_at s a (x st w s j b a lent o h fresh))

  moves : (a : Answer) → Moves a
  unfolding entry_step
  moves answer.Offer o g = makes st w s j b answer.Offer lent o h fresh g (offer-made st w s j b lent o h fresh g)
  moves answer.End o g = makes st w s j b answer.End lent o h fresh g (end-made st w s j b h fresh g)
  moves answer.Sent o g =
      makes st w s j b answer.Sent lent o h fresh g
      (entry st w s j b answer.Sent lent o h fresh g (sent byte_at) refl (sent-begun j.ended j byte_at) refl)
  moves (answer.Reply code) o g =
      makes st w s j b (answer.Reply code) lent o h fresh g
      (entry st w s j b (answer.Reply code) lent o h fresh g (answered code []) refl
      (begun-pick j.ended j (journal_call j (reply_given_of code [])) (replied-begun j.opened j code [])) refl)
  moves (answer.Object size) o g =
      makes st w s j b (answer.Object size) lent o h fresh g
      (entry st w s j b (answer.Object size) lent o h fresh g object refl
      (begun-pick j.ended j (journal_call j (object_given_of [] false)) (object-begun j.opened j)) refl)
  moves answer.Body o g =
      makes st w s j b answer.Body lent o h fresh g (silent st w s j b answer.Body lent o h fresh g refl (same_next j.ended j))
  moves answer.BodyFailed o g =
      makes st w s j b answer.BodyFailed lent o h fresh g (silent st w s j b answer.BodyFailed lent o h fresh g refl (same_next j.ended j))
  moves answer.Acknowledge o g =
      makes st w s j b answer.Acknowledge lent o h fresh g (silent st w s j b answer.Acknowledge lent o h fresh g refl (same_next j.ended j))
  moves (answer.Password y) o g =
      let p = given (is_password_known y) lent in
      let z = x st w s j b (answer.Password y) lent o h fresh in
      let word = password-word st w s j b z (says st w s j b (answer.Password y) lent o h fresh) p refl g in
      makes st w s j b (answer.Password y) lent o h fresh g
      (entry st w s j b (answer.Password y) lent o h fresh g (checked (last_right z.result.engine.peer.window)) refl
      (begun-pick j.ended j (journal_call j (password_given_of p)) refl)
      (ap (λ (r : Bool). (entry_step j (checked r)).next) word))
  moves (answer.Nonce n) o g =
      makes st w s j b (answer.Nonce n) lent o h fresh g
      (entry st w s j b (answer.Nonce n) lent o h fresh g (nonce (octets16 n)) refl
      (begun-pick j.ended j (journal_call j (nonce_given_of n lent)) refl) refl)
  moves (answer.Credentials user) o g =
      makes st w s j b (answer.Credentials user) lent o h fresh g
      (silent st w s j b (answer.Credentials user) lent o h fresh g refl (same_next j.ended j))
  moves answer.NoCredentials o g =
      makes st w s j b answer.NoCredentials lent o h fresh g
      (silent st w s j b answer.NoCredentials lent o h fresh g refl (same_next j.ended j))

  any_call : (a : Answer) (o : OffersOctets (call_of a lent))
      → Makes st w s j b a lent o h fresh (noted_at s (x st w s j b a lent o h fresh)) (logged_at s a (x st w s j b a lent o h fresh))
  any_call a o = go (verdict_of (step_of s (call_of a lent)).took.outcome) refl
    where
      go : (v : Verdict) → verdict_of (step_of s (call_of a lent)).took.outcome ≡ v
          → Makes st w s j b a lent o h fresh (noted_at s (x st w s j b a lent o h fresh)) (logged_at s a (x st w s j b a lent o h fresh))
      go goes g = moves a o g
      go (refused n) g = at_refused st w s j b a lent o h fresh n g

-- ---- some turns

last-joins : (j : Journal) (p : List ℕ) → Joins j (pending p ++ []) (pending p)
last-joins j [] = joins-nothing
last-joins j (b ∷ l) = keep (received (b ∷ l)) joins-nothing

turns-join : (st : Settings) (ts : List ReceiverTurn) (w : Known) (s : State) (j : Journal) (u : List Handed) → Between st w s j → Turns u s ts
    → held_in s ≡ j.begun → Fresh j
    → Joins (begin j []) (pending j.begun ++ notes s (calls_made s ts)) (entries_made s ts ++ pending (held_in (state_after s ts)))
turns-join st [] w s j u b r h f =
    subst (λ (l : List ℕ). Joins (begin j []) (pending j.begun ++ []) (pending l)) (sym h) (last-joins (begin j []) j.begun)
turns-join st (t ∷ ts) w s j u b r h f =
    let a = t.answer in
    let l = t.lent in
    let o = r.1.0 in
    let y = x st w s j b a l o h f in
    let i = k st w s j b a l o h f in
    let m = any_call st w s j b l h f a o in
    let d = after st w s j b a l o h f in
    let later = turns-join st ts (learns w y.call y.result.outcome) (next y) i (handed_at y) d r.1.1
    (held-begun (next y) i d.coupled m.begun) m.fresh in
    subst (λ (e : List LogEntry). Joins (begin j []) (pending j.begun ++ notes s (calls_made s (t ∷ ts))) e)
    (sym (append_assoc (logged_at s a y) (entries_made (next y) ts) (pending (held_in (state_after (next y) ts)))))
    (m.joins (notes (next y) (calls_made (next y) ts)) (entries_made (next y) ts ++ pending (held_in (state_after (next y) ts))) later)

pub turns_receive : TurnsReceive
unfolding read_up
turns_receive st s z ts r =
    let b = start_between st s z in
    record {
      ran = ran_of [] s ts r;
      received = received_of [] s ts r;
      joins = turns-join st ts (at_start st) s (journal_of st) [] b r (held-begun s (journal_of st) b.coupled (λ u. refl)) refl;
    }
