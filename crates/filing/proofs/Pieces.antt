-- One entry for a packet stands for the pieces in which it came: what the journal makes of a packet does not depend on the bytes begun.
-- Assumes nothing.
use mathlib.Core.Path.{◌≡◌, refl, ap, sym, ◌∙◌}
use mathlib.Core.Bool.{Bool, true, false, ◌&&◌, ◌||◌, not, false≢true}
use mathlib.Core.List.{List, [], ◌∷◌, ◌++◌}
use mathlib.Core.Option.{Option, none, some}
use Prim.Native.Nat.{ℕ, suc, ◌+◌}
use native.Mathlib.Omega.{arith}
use lib.ListN.{length, take}
use lib.Dec.{leb, ltb}
use Rattle.base.specs.Pick.{pick}
use Rattle.base.specs.Bytes.{be16}
use Rattle.packet.specs.FirstByte.{same_opcode}
use Rattle.packet.specs.Packet.{Request, request_of}
use Rattle.packet.specs.declared.opcode.Opcode.{Opcode}
use Rattle.packet.specs.declared.opcode.Opcode.TheVariants.{Connect, Disconnect, Put, Get, SetPath, Action, Session, Abort, UserDefined}
use Rattle.journal.specs.Journal.{Journal, Entry as Step, unchanged, begin, after, Opened, nothing, trailing, putting, getting, sending, gathering, draining, put_read, first_read, request_read, trails, packet_read, journal_packet, dropped, Read, more, whole, short, read_step, read_up, goes_on_of, taken_up, bytes_read}
use Rattle.journal.specs.Naming.{Naming, packet_names, bytes_name}
use Rattle.journal.proofs.Laws.{read-append, read_on}
use Rattle.filing.specs.Entries.{LogEntry, received, entry_step, names_step, Handed, handed_under, log_handed, first_end, log_ends, nothing as joins-nothing, keep as joins-keep, join as joins-join}
use Rattle.filing.proofs.Logged.{behind}
use Rattle.filing.specs.Claims.{Pieces, PiecesName, Same, JoinedSame, TakenReads}

first-same : (o : Opcode) (j : Journal) (q : List ℕ) (r : Request) → first_read o (begin j q) r ≡ first_read o j r
unfolding first_read put_read
first-same Connect j q r = refl
first-same Disconnect j q r = refl
first-same SetPath j q r = refl
first-same Abort j q r = refl
first-same Put j q r = refl
first-same Get j q r = refl
first-same Action j q r = refl
first-same Session j q r = refl
first-same (UserDefined x) j q r = refl

inside-same : (o : Opened) (j : Journal) (q : List ℕ) (r : Request) → request_read o (begin j q) r ≡ request_read o j r
unfolding put_read
inside-same nothing j q r = first-same r.opcode j q r
inside-same trailing j q r = ap (pick (trails r) (unchanged (after j (some r) (pick r.final nothing trailing)))) (first-same r.opcode j q r)
inside-same (putting c s) j q r = refl
inside-same (getting k) j q r = refl
inside-same sending j q r = refl
inside-same (gathering o k) j q r = refl
inside-same draining j q r = refl

packet-same : (r : Option Request) (j : Journal) (q : List ℕ) → packet_read r (begin j q) ≡ packet_read r j
packet-same none j q = refl
packet-same (some r) j q = ap (pick (same_opcode r.opcode Abort) (dropped j r)) (inside-same j.opened j q r)

read_same : (r : Read) (j : Journal) (q : List ℕ) → bytes_read (begin j q) r ≡ bytes_read j r
unfolding journal_packet
read_same (more p) j q = refl
read_same (whole p) j q = packet-same (request_of p) j q
read_same short j q = refl

names_same : (r : Read) (j : Journal) (n : Naming) (q : List ℕ) → bytes_name r (begin j q) n ≡ bytes_name r j n
names_same (more p) j n q = refl
names_same (whole p) j n q = go (request_of p)
  where
    go : (r : Option Request) → packet_names r (begin j q) n ≡ packet_names r j n
    go none = refl
    go (some r) = refl
names_same short j n q = refl

-- two pieces of which the first leaves a packet unfinished: the second's step is the step of both at once
pub pieces : Pieces
unfolding entry_step
pieces j a b q w e =
    ap (λ (t : Bool). pick t (unchanged j) (bytes_read j (read_up j.begun (a ++ b)))) w
    ∙ ap (bytes_read j) (read-append j.begun a b ∙ ap (λ (r : Read). read_on r b) e)
    ∙ sym (read_same (read_up q b) j q)
    ∙ sym (ap (λ (t : Bool). pick t (unchanged (begin j q)) (bytes_read (begin j q) (read_up q b))) w)

pub pieces-name : PiecesName
unfolding names_step
pieces-name j n a b q w e =
    ap (λ (t : Bool). pick t n (bytes_name (read_up j.begun (a ++ b)) j n)) w
    ∙ ap (λ (r : Read). bytes_name r j n) (read-append j.begun a b ∙ ap (λ (r : Read). read_on r b) e)
    ∙ sym (names_same (read_up q b) j n q)
    ∙ sym (ap (λ (t : Bool). pick t n (bytes_name (read_up q b) (begin j q) n)) w)

-- ---- a log in which pieces are joined

-- what a piece that leaves its packet unfinished does
piece-step : (j : Journal) (a q : List ℕ) → j.ended ≡ false → read_up j.begun a ≡ more q → entry_step j (received a) ≡ unchanged (begin j q)
unfolding entry_step
piece-step j a q w e = ap (λ (t : Bool). pick t (unchanged j) (bytes_read j (read_up j.begun a))) w ∙ ap (bytes_read j) e

piece-names : (j : Journal) (n : Naming) (a q : List ℕ) → j.ended ≡ false → read_up j.begun a ≡ more q → names_step j n (received a) ≡ n
unfolding names_step
piece-names j n a q w e = ap (λ (t : Bool). pick t n (bytes_name (read_up j.begun a) j n)) w ∙ ap (λ (r : Read). bytes_name r j n) e

-- what follows an entry, by its step and its naming
abbrev follows : Step → Naming → List LogEntry → List Handed
follows x m es = handed_under m.under x.given ++ log_handed x.next m es

abbrev ends_with : Step → List LogEntry → Option ℕ
ends_with x es = first_end (x.number ∷ log_ends x.next es)

two-pieces : (j : Journal) (n : Naming) (a b q : List ℕ) (es : List LogEntry) → j.ended ≡ false → read_up j.begun a ≡ more q
    → Same j n (received a ∷ received b ∷ es) (received (a ++ b) ∷ es)
two-pieces j n a b q es w e =
    let x = piece-step j a q w e in
    let y = piece-names j n a q w e in
    let u = pieces j a b q w e in
    let v = pieces-name j n a b q w e in
    record {
      handed =
          ap (λ (s : Step). follows s (names_step j n (received (a ++ b))) es) u
          ∙ ap (λ (m : Naming). follows (entry_step (begin j q) (received b)) m es) v
          ∙ sym (ap (λ (s : Step). follows s (names_step j n (received a)) (received b ∷ es)) x
          ∙ ap (λ (m : Naming). log_handed (begin j q) m (received b ∷ es)) y);
      end = ap (λ (s : Step). ends_with s es) u ∙ sym (ap (λ (s : Step). ends_with s (received b ∷ es)) x);
    }

pub joined_same : JoinedSame
joined_same j n es fs joins-nothing = record { handed = refl; end = refl }
joined_same j n es fs (joins-keep e {es = gs} {fs = hs} r) =
    let i = joined_same (entry_step j e).next (names_step j n e) gs hs r in
    record {
      handed = ap (λ (l : List Handed). handed_under (names_step j n e).under (entry_step j e).given ++ l) i.handed;
      end = behind (entry_step j e).number (log_ends (entry_step j e).next hs) (log_ends (entry_step j e).next gs) i.end;
    }
joined_same j n es fs (joins-join a b q {es = gs} w e r) =
    let i = joined_same j n (received (a ++ b) ∷ gs) fs r in
    let k = two-pieces j n a b q gs w e in
    record { handed = i.handed ∙ k.handed; end = i.end ∙ k.end }

-- ---- what a call took

-- at a packet's end nothing that follows is looked at
end_reads : (q : List ℕ) (r t : Read) → goes_on_of q ≡ false → read_step q r ≡ read_step q t
unfolding goes_on_of read_step
end_reads q r t e = go (ltb (length q) 3) (ltb (be16 q 1) 3) (leb (be16 q 1) (length q)) e
  where
    go : (a b c : Bool) → (a || (not b && not c)) ≡ false
        → pick a r (pick b short (pick c (whole q) r)) ≡ pick a t (pick b short (pick c (whole q) t))
    go true b c h = absurd (false≢true (sym h))
    go false true c h = refl
    go false false true h = refl
    go false false false h = absurd (false≢true (sym h))

pub taken-reads : TakenReads
unfolding read_up taken_up
taken-reads p [] = refl
taken-reads p (x ∷ xs) = go (taken-reads (p ++ (x ∷ [])) xs) (goes_on_of (p ++ (x ∷ []))) refl
  where
    q : List ℕ
    q = p ++ (x ∷ [])

    go : read_up q (take (taken_up q xs) xs) ≡ read_up q xs → (g : Bool) → goes_on_of q ≡ g
        → read_up p (take (1 + pick g (taken_up q xs) 0) (x ∷ xs)) ≡ read_step q (read_up q xs)
    go i true e =
        let m : 1 + taken_up q xs ≡ suc (taken_up q xs) = omega arith in
        ap (λ (k : ℕ). read_up p (take k (x ∷ xs))) m ∙ ap (read_step q) i
    go i false e = end_reads q (more q) (read_up q xs) e
