-- What the journal makes of the bytes of a packet that has begun. A packet that goes on has all bytes that came; a length under 3 shows at the third
-- byte; and with a packet's end, or the stream's, nothing is begun any more. Assumes nothing.
use mathlib.Core.Path.{◌≡◌, refl, sym, ap, ◌∙◌}
use mathlib.Core.Bool.{Bool, true, false, ◌&&◌, not, true≢false}
use mathlib.Core.List.{List, [], ◌∷◌, ◌++◌, append_assoc, append-nil}
use mathlib.Core.Option.{Option, none, some}
use Prim.Native.Nat.{ℕ, ◌+◌, ◌*◌}
use native.Mathlib.Omega.{arith}
use lib.Dec.{ltb, leb}
use lib.ListN.{length}
use Rattle.base.specs.Pick.{pick}
use Rattle.base.specs.Bytes.{be16}
use Rattle.packet.specs.FirstByte.{same_opcode}
use Rattle.packet.specs.Packet.{Request, request_of}
use Rattle.packet.specs.declared.opcode.Opcode.{Opcode}
use Rattle.packet.specs.declared.opcode.Opcode.TheVariants as op
use Rattle.journal.specs.Record.{Record}
use Rattle.journal.specs.Journal.{Journal, Entry as Step, Opened, nothing, trailing, putting, getting, sending, gathering, draining, busy, admitted, put_read, first_read, trails, request_read, packet_read, journal_packet, Read, more, whole, short, read_step, read_up, goes_on_of, taken_up, bytes_read}

-- ---- a packet that goes on

more-first : {p q : List ℕ} → more p ≡ more q → p ≡ q
more-first {p} e = ap (λ (r : Read). bytes_in r) e
  where
    bytes_in : Read → List ℕ
    bytes_in (more l) = l
    bytes_in (whole l) = p
    bytes_in short = p

whole-more : {p q : List ℕ} → whole p ≡ more q → ⊥
whole-more e = let z : ◌≡◌ {A = ℕ} 0 1 = cc in omega arith

short-more : {q : List ℕ} → short ≡ more q → ⊥
short-more e = let z : ◌≡◌ {A = ℕ} 0 1 = cc in omega arith

more-short : {q : List ℕ} → more q ≡ short → ⊥
more-short e = let z : ◌≡◌ {A = ℕ} 0 1 = cc in omega arith

whole-short : {q : List ℕ} → whole q ≡ short → ⊥
whole-short e = let z : ◌≡◌ {A = ℕ} 0 1 = cc in omega arith

step-more : (p q : List ℕ) (r : Read) → read_step p r ≡ more q → r ≡ more q
unfolding read_step
step-more p q r e = go (ltb (length p) 3) (ltb (be16 p 1) 3) (leb (be16 p 1) (length p)) e
  where
    go : (a b c : Bool) → pick a r (pick b short (pick c (whole p) r)) ≡ more q → r ≡ more q
    go true b c h = h
    go false true c h = absurd (short-more h)
    go false false true h = absurd (whole-more h)
    go false false false h = h

-- it has all that came
pub more-all : (p i q : List ℕ) → read_up p i ≡ more q → q ≡ p ++ i
unfolding read_up
more-all p [] q e = sym (more-first e) ∙ sym (append-nil p)
more-all p (x ∷ xs) q e =
    more-all (p ++ (x ∷ [])) xs q (step-more (p ++ (x ∷ [])) q (read_up (p ++ (x ∷ [])) xs) e) ∙ append_assoc p (x ∷ []) xs

-- ---- a length under 3

-- a packet whose length field is 3 at least is never seen to be short
never_short : (a b c : ℕ) (l i : List ℕ) → ltb (b * 256 + c) 3 ≡ false → read_up (a ∷ b ∷ c ∷ l) i ≡ short → ⊥
unfolding read_up read_step
never_short a b c l [] h e = more-short e
never_short a b c l (x ∷ xs) h e =
    go (ltb (length (a ∷ b ∷ c ∷ (l ++ (x ∷ [])))) 3) (ltb (b * 256 + c) 3) (leb (b * 256 + c) (length (a ∷ b ∷ c ∷ (l ++ (x ∷ [])))))
    (never_short a b c (l ++ (x ∷ [])) xs h) h e
  where
    rest : Read
    rest = read_up (a ∷ b ∷ c ∷ (l ++ (x ∷ []))) xs

    go : (s t u : Bool) → (rest ≡ short → ⊥) → t ≡ false
        → pick s rest (pick t short (pick u (whole (a ∷ b ∷ c ∷ (l ++ (x ∷ [])))) rest)) ≡ short → ⊥
    go true t u later k f = later f
    go false true u later k f = true≢false k
    go false false true later k f = whole-short f
    go false false false later k f = later f

-- at the third byte
third : (a b c : ℕ) (l : List ℕ) → read_step (a ∷ b ∷ c ∷ []) (read_up (a ∷ b ∷ c ∷ []) l) ≡ short → goes_on_of (a ∷ b ∷ c ∷ []) ≡ false
unfolding read_step goes_on_of
third a b c l e = go (ltb (b * 256 + c) 3) refl e
  where
    rest : Read
    rest = read_up (a ∷ b ∷ c ∷ []) l

    go : (t : Bool) → ltb (b * 256 + c) 3 ≡ t → pick t short (pick (leb (b * 256 + c) 3) (whole (a ∷ b ∷ c ∷ [])) rest) ≡ short
        → (not t && not (leb (b * 256 + c) 3)) ≡ false
    go true h f = refl
    go false h f = absurd (in_rest (leb (b * 256 + c) 3) f)
      where
        in_rest : (u : Bool) → pick u (whole (a ∷ b ∷ c ∷ [])) rest ≡ short → ⊥
        in_rest true g = whole-short g
        in_rest false g = never_short a b c [] l h g

-- what a packet that goes on has of its length field
length-field : (a b c : ℕ) (l q : List ℕ) → read_up [] (a ∷ b ∷ c ∷ l) ≡ more q → ltb (b * 256 + c) 3 ≡ false
unfolding read_up read_step
length-field a b c l q e = go (ltb (b * 256 + c) 3) e
  where
    go : (t : Bool) → pick t short (pick (leb (b * 256 + c) 3) (whole (a ∷ b ∷ c ∷ [])) (read_up (a ∷ b ∷ c ∷ []) l)) ≡ more q → t ≡ false
    go true f = absurd (short-more f)
    go false f = refl

pub short-third : (p i : List ℕ) → read_up [] p ≡ more p → read_up p i ≡ short → length p + taken_up p i ≡ 3
unfolding read_up read_step taken_up goes_on_of
short-third [] [] g e = absurd (more-short e)
short-third [] (a ∷ []) g e = absurd (more-short e)
short-third [] (a ∷ b ∷ []) g e = absurd (more-short e)
short-third [] (a ∷ b ∷ c ∷ l) g e = ap (λ (t : Bool). 0 + (1 + (1 + (1 + pick t (taken_up (a ∷ b ∷ c ∷ []) l) 0)))) (third a b c l e)
short-third (a ∷ []) [] g e = absurd (more-short e)
short-third (a ∷ []) (b ∷ []) g e = absurd (more-short e)
short-third (a ∷ []) (b ∷ c ∷ l) g e = ap (λ (t : Bool). 1 + (1 + (1 + pick t (taken_up (a ∷ b ∷ c ∷ []) l) 0))) (third a b c l e)
short-third (a ∷ b ∷ []) [] g e = absurd (more-short e)
short-third (a ∷ b ∷ []) (c ∷ l) g e = ap (λ (t : Bool). 2 + (1 + pick t (taken_up (a ∷ b ∷ c ∷ []) l) 0)) (third a b c l e)
short-third (a ∷ b ∷ c ∷ l) i g e = absurd (never_short a b c l i (length-field a b c l (a ∷ b ∷ c ∷ l) g) e)

-- ---- what is begun afterwards

-- the bytes of a packet that goes on; none once it is whole
abbrev pub begun_by : Read → List ℕ
begun_by (more q) = q
begun_by (whole q) = []
begun_by short = []

-- nothing is begun
abbrev None : Step → Type 0
None x = x.next.begun ≡ []

either : (t : Bool) (x y : Step) → None x → None y → None (pick t x y)
either true x y a b = a
either false x y a b = b

put-none : (j : Journal) (r : Request) (s n : Bool) (c : Record) → None (put_read j r s n c)
unfolding put_read
put-none j r s n c = either r.final _ _ refl refl

first-none : (o : Opcode) (j : Journal) (r : Request) → None (first_read o j r)
unfolding first_read
first-none op.Connect j r = refl
first-none op.Disconnect j r = refl
first-none op.SetPath j r = refl
first-none op.Abort j r = refl
first-none op.Put j r = either (admitted j.settings j.standing r) _ _ (put-none j r _ _ _) refl
first-none op.Get j r = either (admitted j.settings j.standing r) _ _ refl refl
first-none op.Action j r = either (admitted j.settings j.standing r) _ _ refl refl
first-none op.Session j r = either (admitted j.settings j.standing r) _ _ refl refl
first-none (op.UserDefined x) j r = either (admitted j.settings j.standing r) _ _ refl refl

inside-none : (o : Opened) (j : Journal) (r : Request) → None (request_read o j r)
inside-none nothing j r = first-none r.opcode j r
inside-none trailing j r = either (trails r) _ _ refl (first-none r.opcode j r)
inside-none (putting c s) j r = either (same_opcode r.opcode op.Put) _ _ (put-none j r _ _ _) refl
inside-none (getting k) j r = either (same_opcode r.opcode op.Get) _ _ refl refl
inside-none sending j r = either (same_opcode r.opcode op.Get) _ _ refl refl
inside-none (gathering o k) j r = either (same_opcode r.opcode o) _ _ refl refl
inside-none draining j r = refl

packet-none : (x : Option Request) (j : Journal) → None (packet_read x j)
packet-none none j = either (busy j.opened) _ _ refl refl
packet-none (some r) j = either (same_opcode r.opcode op.Abort) _ _ refl (inside-none j.opened j r)

pub read-begun : (r : Read) (j : Journal) → (bytes_read j r).next.begun ≡ begun_by r
unfolding journal_packet
read-begun (more q) j = refl
read-begun (whole q) j = packet-none (request_of q) j
read-begun short j = refl
