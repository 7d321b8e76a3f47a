-- `filing::conf::next_number` meets its contract: a digit behind fewer than six, or no number. Assumes nothing.
use native.Mathlib.Omega.{arith}
use mathlib.Core.Path.{◌≡◌, refl, ap}
use Prim.Native.Nat.{ℕ, ◌+◌, ◌-◌, ◌*◌}
use borrow.Author.Tests.{le-leb, lt-leb, lt-ltb, le-ltb}
use Rattle.filing.specs.Conf.{digit_next}
use Rattle.filing.proofs.conf.next_number.Goals as goal

pub returns-then-b-lt48 : goal.returns-then-b-lt48
unfolding digit_next
returns-then-b-lt48 c =
    let b = c.args.b in record {
      value = rw (lt-leb 0x30 b c.if-b-lt48.true) refl;
      small = omega arith;
    }

pub returns-then-b-gt57 : goal.returns-then-b-gt57
unfolding digit_next
returns-then-b-gt57 c =
    let b = c.args.b in record {
      value = rw (le-leb 0x30 b c.if-b-lt48.false, lt-leb b 0x39 c.if-b-gt57.true) refl;
      small = omega arith;
    }

pub returns-then-n-lt100000 : goal.returns-then-n-lt100000
unfolding digit_next
returns-then-n-lt100000 c =
    let a = c.args in
    let e : a.n * 10 + c.wide32.result ≡ a.n * 10 + (a.b - 0x30) = ap (λ (k : ℕ). a.n * 10 + k) c.wide32.ensures.0 in record {
      value = rw (
        le-leb 0x30 a.b c.if-b-lt48.false,
        le-leb a.b 0x39 c.if-b-gt57.false,
        lt-ltb a.n 100000
            c.if-n-lt100000.true,
      ) e;
      small = omega (arith, e);
    }

pub returns : goal.returns
unfolding digit_next
returns c =
    let a = c.args in record {
      value = rw (
        le-leb 0x30 a.b c.if-b-lt48.false,
        le-leb a.b 0x39 c.if-b-gt57.false,
        le-ltb a.n 100000
            c.if-n-lt100000.false,
      ) refl;
      small = omega arith;
    }
