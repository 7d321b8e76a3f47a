-- The packets that are made, by the parts that the code makes them of. Assumes nothing.
use mathlib.Core.Path.{◌≡◌, sym, ap, ◌∙◌}
use mathlib.Core.Bool.{Bool, true, false}
use mathlib.Core.List.{List, ◌∷◌}
use Prim.Native.Nat.{ℕ, ◌+◌, ◌-◌, ◌≤◌, ◌<◌}
use native.Mathlib.Omega.{arith}
use lib.ListN.{set}
use lib.Seq.{paste}
use borrow.Author.Tests.{eq-eqb, ne_eqb, lt-ltb, le-ltb}
use Rattle.base.specs.Bytes.{bytes16}
use Rattle.outgoing.specs.declared.object.Outgoing.{Outgoing}
use Rattle.outgoing.specs.declared.object.NextPacket.{NextPacket}
use Rattle.outgoing.specs.Object.{made, sending, prefixed, ahead_none, full_chunk, begin_chunk, body_after, code_of, reading}

-- the first three bytes are a paste at the front
pub prefix_pasted : (last : Bool) (n b : ℕ) (y : List ℕ) → b ≡ code_of last → paste y 0 (b ∷ bytes16 n) 3 ≡ prefixed last n y
prefix_pasted last n b y e = ap (λ (k : ℕ). paste y 0 (k ∷ bytes16 n) 3) e

pub made_alike : {p q : NextPacket} {y z : List ℕ} → p ≡ q → y ≡ z → made p y ≡ made q z
made_alike {p} {q} {y} {z} e f = ap (λ (x : NextPacket). made x y) e ∙ ap (made q) f

pub sending-alike : (last : Bool) (n : ℕ) {o p : Outgoing} {y z : List ℕ} → o ≡ p → y ≡ z → sending o last n y ≡ sending p last n z
sending-alike last n {o} {p} {y} {z} e f = ap (λ (x : Outgoing). sending x last n y) e ∙ ap (sending p last n) f

-- ---- a chunk that is begun

module _ (o : Outgoing) (at size : ℕ) (y : List ℕ) where
  begun : (b : Bool) → o.has_pending ≡ b → begin_chunk o.has_pending o at size y ≡ begin_chunk b o at size y
  begun b e = ap (λ (x : Bool). begin_chunk x o at size y) e

  pub begun-empty : o.has_pending ≡ true → size ≡ 0 → full_chunk o at 0 o.pending y ≡ begin_chunk o.has_pending o at size y
  begun-empty e z = sym (begun true e ∙ rw (eq-eqb size 0 z))

  pub begun_ahead : o.has_pending ≡ true → (size ≡ 0 → ⊥)
      → made (reading (ahead_none o) at 1 size) (set y (at + 3) o.pending) ≡ begin_chunk o.has_pending o at size y
  begun_ahead e z = sym (begun true e ∙ rw (ne_eqb size 0 z))

  pub begun_new : o.has_pending ≡ false → made (reading o at 0 (size + 1)) y ≡ begin_chunk o.has_pending o at size y
  begun_new e = sym (begun false e)

-- ---- after the headers

module _ (capacity : ℕ) (o : Outgoing) (at : ℕ) (y : List ℕ) where
  after : (b : Bool) → o.has_body ≡ b → body_after o.has_body capacity o at y ≡ body_after b capacity o at y
  after b e = ap (λ (x : Bool). body_after x capacity o at y) e

  pub after_none : o.has_body ≡ false → sending o true at y ≡ body_after o.has_body capacity o at y
  after_none e = sym (after false e)

  pub after-short : o.has_body ≡ true → capacity < at → sending o false at y ≡ body_after o.has_body capacity o at y
  after-short e h = sym (after true e ∙ rw (lt-ltb (capacity + 3) (at + 3) (omega arith)))

  pub after-room : o.has_body ≡ true → at ≤ capacity
      → begin_chunk o.has_pending o at (capacity - at) y ≡ body_after o.has_body capacity o at y
  after-room e h = sym (after true e ∙ rw (le-ltb (capacity + 3) (at + 3) (omega arith)))
