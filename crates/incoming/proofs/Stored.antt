-- Bytes that fit a store, and bytes that do not, by the code's test. Assumes nothing.
use mathlib.Core.Path.{◌≡◌}
use mathlib.Core.List.{List}
use mathlib.Core.Bool.{true, false}
use Prim.Native.Nat.{ℕ, ◌+◌, ◌-◌, ◌≤◌, ◌<◌}
use native.Mathlib.Omega.{arith}
use borrow.Author.Tests.{le-leb, lt-leb}
use lib.ListN.{length}
use lib.Seq.{paste}
use Rattle.incoming.specs.declared.gather.Gathered.{Gathered}
use Rattle.incoming.specs.Gather.{gathering, keep_bytes, store_bytes}

module _ (g : Gathered) (h b bs : List ℕ) where
  pub keeps : g.kept ≤ 65535 → length bs ≤ 65535 - g.kept
      → gathering (record { kept = g.kept + length bs; body = g.body; came = g.came; over = g.over; full = false }) (paste h g.kept bs (length bs)) b
      ≡ keep_bytes (gathering g h b) bs
  unfolding keep_bytes
  keeps w l = simp (le-leb (g.kept + length bs) 65535 (omega arith))

  pub keeps-not : g.kept ≤ 65535 → 65535 - g.kept < length bs
      → gathering (record { kept = g.kept; body = g.body; came = g.came; over = g.over; full = true }) h b ≡ keep_bytes (gathering g h b) bs
  unfolding keep_bytes
  keeps-not w l = simp (lt-leb (g.kept + length bs) 65535 (omega arith))

  pub stores : (limit : ℕ) → g.body ≤ limit → length bs ≤ limit - g.body
      → gathering (record { kept = g.kept; body = g.body + length bs; came = true; over = g.over; full = false }) h (paste b g.body bs (length bs))
      ≡ store_bytes limit (gathering g h b) bs
  unfolding store_bytes
  stores limit w l = simp (le-leb (g.body + length bs) limit (omega arith))

  pub stores-not : (limit : ℕ) → g.body ≤ limit → limit - g.body < length bs
      → gathering (record { kept = g.kept; body = g.body; came = true; over = true; full = false }) h b ≡ store_bytes limit (gathering g h b) bs
  unfolding store_bytes
  stores-not limit w l = simp (lt-leb (g.body + length bs) limit (omega arith))
