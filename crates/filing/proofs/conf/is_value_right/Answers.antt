-- `filing::conf::is_value_right` meets its contract, word by word. Assumes nothing.
use mathlib.Core.Path.{refl, ap, ◌∙◌}
use mathlib.Core.Bool.{true, false}
use Prim.Native.Nat.{ℕ}
use lib.Dec.{leb}
use Rattle.filing.specs.Conf.{packet_limit, right_value}
use Rattle.filing.proofs.Configured.{same-told}
use Rattle.filing.proofs.conf.is_value_right.Goals as goal

pub returns-then-same : goal.returns-then-same
unfolding right_value
returns-then-same c =
    rw (same-told _ _ c.same.result true c.same.ensures c.if-same.true) (ap (λ (k : ℕ). leb k 65536) c.number_of-n.ensures)

pub returns-then-same-2 : goal.returns-then-same-2
unfolding right_value
returns-then-same-2 c =
    rw (
      same-told _ _ c.same.result false c.same.ensures c.if-same.false,
      same-told _ _ c.same-2.result true c.same-2.ensures c.if-same-2.true,
    ) (ap (λ (k : ℕ). leb k 255) c.number_of-n.ensures)

pub returns-then-same-3 : goal.returns-then-same-3
unfolding right_value
returns-then-same-3 c =
    rw (
      same-told _ _ c.same.result false c.same.ensures c.if-same.false,
      same-told _ _ c.same-2.result false c.same-2.ensures c.if-same-2.false,
      same-told _ _ c.same-3.result true c.same-3.ensures c.if-same-3.true,
    ) refl

pub returns-then-same-4 : goal.returns-then-same-4
unfolding right_value
returns-then-same-4 c =
    rw (
      same-told _ _ c.same.result false c.same.ensures c.if-same.false,
      same-told _ _ c.same-2.result false c.same-2.ensures c.if-same-2.false,
      same-told _ _ c.same-3.result false c.same-3.ensures c.if-same-3.false,
      same-told _ _ c.same-4.result true c.same-4.ensures c.if-same-4.true,
    ) c.is_target.ensures

pub returns-then-same-5 : goal.returns-then-same-5
unfolding right_value
returns-then-same-5 c =
    rw (
      same-told _ _ c.same.result false c.same.ensures c.if-same.false,
      same-told _ _ c.same-2.result false c.same-2.ensures c.if-same-2.false,
      same-told _ _ c.same-3.result false c.same-3.ensures c.if-same-3.false,
      same-told _ _ c.same-4.result false c.same-4.ensures c.if-same-4.false,
      same-told _ _ c.same-5.result true c.same-5.ensures c.if-same-5.true,
    ) (c.is_packet_limit.ensures ∙ ap packet_limit c.number_of-n.ensures)

pub returns : goal.returns
unfolding right_value
returns c =
    rw (
      same-told _ _ c.same.result false c.same.ensures c.if-same.false,
      same-told _ _ c.same-2.result false c.same-2.ensures c.if-same-2.false,
      same-told _ _ c.same-3.result false c.same-3.ensures c.if-same-3.false,
      same-told _ _ c.same-4.result false c.same-4.ensures c.if-same-4.false,
      same-told _ _ c.same-5.result false c.same-5.ensures c.if-same-5.false,
    ) refl
