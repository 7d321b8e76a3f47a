-- `filing::frame::chain_at` meets its contract: frame 0 has no check before it, and a check has sixteen bytes. Assumes nothing.
use native.Mathlib.Omega.{arith}
use Rattle.filing.proofs.InStore.{chain_first, chain_next}
use Rattle.filing.proofs.frame.chain_at.Goals as goal

pub returns-then-number-eq0 : goal.returns-then-number-eq0
returns-then-number-eq0 c =
    record {
      value = chain_first _ _ c.if-number-eq0.true;
      back = omega arith;
    }

pub returns-then-at-lt-ROW : goal.returns-then-at-lt-ROW
returns-then-at-lt-ROW c =
    record {
      value = chain_next _ _ _ c.if-number-eq0.false (omega arith);
      back = omega arith;
    }

pub returns : goal.returns
returns c =
    record {
      value = chain_next _ _ _ c.if-number-eq0.false (omega arith);
      back = omega arith;
    }
