-- `filing::conf::is_hex` meets its contract, by the four ranges. Assumes nothing.
use native.Mathlib.Omega.{arith}
use mathlib.Core.Path.{refl}
use borrow.Author.Tests.{le-leb, lt-leb}
use Rattle.filing.specs.Conf.{is_hex}
use Rattle.filing.proofs.conf.is_hex.Goals as goal

pub returns-then-b-lt48 : goal.returns-then-b-lt48
unfolding is_hex
returns-then-b-lt48 c =
    let b = c.args.b in
    rw (lt-leb 0x30 b c.if-b-lt48.true, lt-leb 0x61 b (omega arith)) refl

pub returns-then-b-le57 : goal.returns-then-b-le57
unfolding is_hex
returns-then-b-le57 c =
    let b = c.args.b in
    rw (le-leb 0x30 b c.if-b-lt48.false, le-leb b 0x39 c.if-b-le57.true) refl

pub returns-then-b-lt97 : goal.returns-then-b-lt97
unfolding is_hex
returns-then-b-lt97 c =
    let b = c.args.b in
    rw (le-leb 0x30 b c.if-b-lt48.false, lt-leb b 0x39 c.if-b-le57.false, lt-leb 0x61 b c.if-b-lt97.true) refl

pub returns : goal.returns
unfolding is_hex
returns c =
    let b = c.args.b in
    rw (le-leb 0x30 b c.if-b-lt48.false, lt-leb b 0x39 c.if-b-le57.false, le-leb 0x61 b c.if-b-lt97.false) refl
