-- `incoming::gather::keep_bytes` meets its contract. By the test the bytes fit, and are pasted where the kept ones end, or they do not.
use native.Mathlib.Omega.{arith}
use Rattle.incoming.proofs.Stored.{keeps, keeps-not}
use Rattle.incoming.proofs.gather.keep_bytes.Goals as goal

pub returns-then-g-bytes : goal.returns-then-g-bytes
returns-then-g-bytes c =
    record {
      model = λ b. let x = c.args in
          keeps-not x.g x.headers.now b x.bytes.now (omega arith) c.if-g-bytes.true;
    }

pub returns : goal.returns
returns c =
    record {
      model = λ b. let k = c in
          let x = c.args in
          rw c.copy_into.ensures (keeps x.g x.headers.now b x.bytes.now (omega arith) c.if-g-bytes.false);
    }
