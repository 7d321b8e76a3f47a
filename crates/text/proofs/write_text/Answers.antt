-- `text::write_text` meets its contract: what is left of the text and what stands in the store, by TextRoom. Assumes nothing.
use mathlib.Core.List.{List, ◌++◌}
use Prim.Native.Nat.{ℕ, ◌+◌}
use native.Mathlib.Omega.{arith}
use Rattle.text.specs.declared.Piece.{Piece}
use Rattle.text.specs.declared.Form.{Form}
use Rattle.text.specs.Text.{encoded, recoded}
use Rattle.text.specs.Pieces.{ReadsOne}
use Rattle.text.proofs.TextRoom.{rest, rest-start, rest-one, rest_end, Half, half_start, half_room, half_more, half_end, stored-whole}
use Rattle.text.proofs.write_text.Goals as goal

-- what was read in a turn
half : (s d₀ d : List ℕ) (from to : Form) (at n : ℕ) (p : Piece) → ReadsOne from s at p → Half (recoded from to s) (rest from to s at) d₀ d n
    → Half (recoded from to s) (encoded to p.code ++ rest from to s (at + p.size)) d₀ d n
half s d₀ d from to at n p was_read h = rw (rest-one from to s at p was_read) at h

pub loop-p-init : goal.loop-p-init
loop-p-init c =
    let x = c.args in
    (omega arith, rw (← rest-start x.from x.to x.s.now) (half_start (recoded x.from x.to x.s.now) x.d.now))

pub put-n-requires : goal.put-n-requires
put-n-requires c =
    let x = c.args in
    let l = c.loop-p in
    let p = c.in-Some.p in (
      half_room (recoded x.from x.to x.s.now) x.d.now l.d l.n c.requires (encoded x.to p.code) (rest x.from x.to x.s.now (l.at + p.size))
          (half x.s.now x.d.now l.d x.from x.to l.at l.n p c.in-Some.ensures l.invariant.1),
      c.in-Some.ensures.scalar,
    )

pub loop-p-preserved : goal.loop-p-preserved
loop-p-preserved c =
    let x = c.args in
    let l = c.loop-p in
    let p = c.in-Some.p in
    let e = c.put-n.ensures in (
      c.in-Some.ensures.within,
      rw (e.1, e.0)
          (half_more (recoded x.from x.to x.s.now) x.d.now l.d l.n c.requires (encoded x.to p.code) (rest x.from x.to x.s.now (l.at + p.size))
          (half x.s.now x.d.now l.d x.from x.to l.at l.n p c.in-Some.ensures l.invariant.1)),
    )

pub returns : goal.returns
returns c =
    let x = c.args in
    let l = c.loop-p in
    let t = recoded x.from x.to x.s.now in
    let h = half_end t x.d.now l.d l.n c.requires (rw (rest_end x.from x.to x.s.now l.at c.in_default.ensures) at l.invariant.1) in
    stored-whole t x.d.now l.d l.n c.requires h.0 h.1
