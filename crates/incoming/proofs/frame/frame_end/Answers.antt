-- `incoming::frame::frame_end` meets its contract. Each return rewrites with the tests that led there, and a 16-bit length is at most 65,535.
use native.Mathlib.Omega.{arith}
use borrow.Author.Tests.{lt-ltb, le-ltb, le-leb, lt-leb}
use mathlib.Core.Path.{◌≡◌, sym}
use Prim.Native.Nat.{ℕ}
use Rattle.incoming.specs.declared.frame.Frame.TheVariants.{More, Whole, Short}
use Rattle.incoming.specs.Frame.{frame_end}
use Rattle.incoming.proofs.frame.frame_end.Goals as goal

-- the three are different
more-whole : More ≡ Whole → ⊥
more-whole w = let z : ◌≡◌ {A = ℕ} 0 1 = cc in omega arith

short-more : Short ≡ More → ⊥
short-more w = let z : ◌≡◌ {A = ℕ} 0 1 = cc in omega arith

short-whole : Short ≡ Whole → ⊥
short-whole w = let z : ◌≡◌ {A = ℕ} 0 1 = cc in omega arith

pub returns-then-begun-lt3 : goal.returns-then-begun-lt3
unfolding frame_end
returns-then-begun-lt3 c =
    record {
      end = simp (lt-ltb _ _ c.if-begun-lt3.true);
      room = λ w. omega arith;
      whole = λ w. absurd (more-whole w);
    }

pub returns-then-n-lt3 : goal.returns-then-n-lt3
unfolding frame_end
returns-then-n-lt3 c =
    let n = c in record {
      end = simp (le-ltb _ _ c.if-begun-lt3.false, ← c.be16_at-n.ensures.value, lt-ltb _ _ c.if-n-lt3.true);
      room = λ w. absurd (short-more w);
      whole = λ w. absurd (short-whole w);
    }

pub returns-then-n-begun : goal.returns-then-n-begun
unfolding frame_end
returns-then-n-begun c =
    let n = c in record {
      end = simp (le-ltb _ _ c.if-begun-lt3.false, ← c.be16_at-n.ensures.value, le-ltb _ _ c.if-n-lt3.false, le-leb _ _ c.if-n-begun.true);
      room = λ w. absurd (more-whole (sym w));
      whole = λ w. omega arith;
    }

pub returns : goal.returns
unfolding frame_end
returns c =
    let n = c in record {
      end = simp (le-ltb _ _ c.if-begun-lt3.false, ← c.be16_at-n.ensures.value, le-ltb _ _ c.if-n-lt3.false, lt-leb _ _ c.if-n-begun.false);
      room = λ w. omega arith;
      whole = λ w. absurd (more-whole w);
    }
