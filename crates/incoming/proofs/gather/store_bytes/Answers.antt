-- `incoming::gather::store_bytes` meets its contract. By the test the bytes fit, and are pasted where the stored ones end, or they do not.
use native.Mathlib.Omega.{arith}
use Rattle.incoming.proofs.Stored.{stores, stores-not}
use Rattle.incoming.proofs.gather.store_bytes.Goals as goal

pub returns-then-limit-g : goal.returns-then-limit-g
returns-then-limit-g c =
    record {
      model = λ h. let x = c.args in
          stores-not x.g h x.body.now x.bytes.now x.limit (omega arith) c.if-limit-g.true;
    }

pub returns : goal.returns
returns c =
    record {
      model = λ h. let k = c in
          let x = c.args in
          rw c.copy_into.ensures (stores x.g h x.body.now x.bytes.now x.limit (omega arith) c.if-limit-g.false);
    }
