-- `packet::tlv::tag_at` meets its contract: at each `return` the tests that led there are those of `tag_at`. Assumes nothing.
use borrow.Author.Tests.{le-leb, lt-leb, lt-ltb, le-ltb}
use mathlib.Core.Path.{◌≡◌, sym}
use Prim.Native.Nat.{◌+◌, ◌-◌}
use lib.ListN.{length, get_or}
use Rattle.packet.specs.Tags.{tag_at}
use Rattle.packet.proofs.tlv.tag_at.Goals as goal

pub returns-then-s-at : goal.returns-then-s-at
unfolding tag_at
returns-then-s-at c = simp (le-leb _ _ c.if-s-at.true)

pub returns-then-s-at-lt2 : goal.returns-then-s-at-lt2
unfolding tag_at
returns-then-s-at-lt2 c = simp (lt-leb _ _ c.if-s-at.false, lt-ltb _ _ c.if-s-at-lt2.true)

pub returns-then-s-start : goal.returns-then-s-start
unfolding tag_at
returns-then-s-start c =
    simp (lt-leb _ _ c.if-s-at.false, le-ltb _ _ c.if-s-at-lt2.false, ← c.wide-n.ensures.0, lt-ltb _ _ c.if-s-start.true)

pub returns : goal.returns
unfolding tag_at
returns c =
    let x = c.args in
    let s = x.s.now in
    let n : get_or s (x.at + 1) 0 ≡ c.wide-n.result = sym c.wide-n.ensures.0 in
    rw (
      lt-leb (length s) x.at c.if-s-at.false,
      le-ltb (length s - x.at) 2 c.if-s-at-lt2.false,
      n,
      le-ltb (length s - (x.at + 2)) c.wide-n.result c.if-s-start.false,
    )
