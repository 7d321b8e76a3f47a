-- `filing::note::are_lengths_right` meets its contract: each length is as it must be. Assumes nothing.
use mathlib.Core.Path.{refl}
use native.Mathlib.Omega.{arith}
use borrow.Author.Tests.{eq-eqb, ne_eqb, le-leb, lt-leb}
use Rattle.filing.proofs.note.are_lengths_right.Goals as goal

pub returns-then-name-ne-NAME : goal.returns-then-name-ne-NAME
returns-then-name-ne-NAME c = rw (ne_eqb c.args.name 33 c.if-name-ne-NAME.true) refl

pub returns-then-check-ne-SUM : goal.returns-then-check-ne-SUM
returns-then-check-ne-SUM c =
    let a = c.args in
    rw (eq-eqb a.name 33 (omega arith), ne_eqb a.check 16 c.if-check-ne-SUM.true) refl

pub returns-then-body-ne-SUM : goal.returns-then-body-ne-SUM
returns-then-body-ne-SUM c =
    let a = c.args in
    rw (eq-eqb a.name 33 (omega arith), eq-eqb a.check 16 (omega arith), ne_eqb a.body 16 c.if-body-ne-SUM.true) refl

pub returns-then-payload-lt-SHORTEST : goal.returns-then-payload-lt-SHORTEST
returns-then-payload-lt-SHORTEST c =
    let a = c.args in
    rw (
      eq-eqb a.name 33 (omega arith),
      eq-eqb a.check 16 (omega arith),
      eq-eqb a.body 16 (omega arith),
      lt-leb 49 a.payload (omega arith),
    ) refl

pub returns : goal.returns
returns c =
    let a = c.args in
    rw (
      eq-eqb a.name 33 (omega arith),
      eq-eqb a.check 16 (omega arith),
      eq-eqb a.body 16 (omega arith),
      le-leb 49 a.payload (omega arith),
    ) refl
