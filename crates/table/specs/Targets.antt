-- The Targets of the open ids (docs/PROTOCOL.md#targets), in three columns of the table store. Beside the id at place `i` stand the length
-- of its Target, which is over 16 for the mark, and the two halves of its sixteen bytes, filled up with zeros.
use Rattle.std.specs.Prelude.{ℕ, suc, ◌+◌, ◌-◌, Bool, List, [], ◌∷◌, ◌++◌, length, get_or, set, take, replicate, eqb, leb}
use Rattle.std.proofs.Math.Option.{Option, none, some}
use Rattle.std.proofs.lemmas.List.Edits.{sets}
use Rattle.base.specs.Pick.{pick}
use Rattle.digest.specs.Md5.{octets16, numbers16}
use Rattle.digest.specs.declared.md5.Octets16.{Octets16}
use Rattle.table.specs.Places.{target_lengths, target_firsts, target_seconds}
use Rattle.table.specs.declared.targets.Target.{Target}

-- The most bytes of a Target that an id carries.
abbrev pub max_target : ℕ
max_target = 16

-- ---- a Target

-- Makes a `Target`.
abbrev pub target : ℕ → Octets16 → Target
target n b = record { length = n; bytes = b }

-- The mark: there is no Target, or one of over 16 bytes.
abbrev pub unnamed : Target
unnamed = target 17 (record { first = 0; second = 0 })

-- Whether a Target is not the mark.
unfoldable pub is_named : Target → Bool
is_named g = leb g.length max_target

-- The bytes of a Target; `none` for the mark. A Target of no bytes is not the mark.
unfoldable pub target_bytes : Target → Option (List ℕ)
target_bytes g = pick (leb g.length max_target) (some (take g.length (octets16 g.bytes))) none

-- The Target of the bytes `v`; over 16 of them are the mark.
unfoldable pub target_by : List ℕ → Target
target_by v = pick (leb (length v) max_target) (target (length v) (numbers16 (v ++ replicate (16 - length v) 0))) unnamed

-- ---- places

-- The place of the first `x`, or the length if there is none.
unfoldable pub place_of : ℕ → List ℕ → ℕ
place_of x [] = 0
place_of x (y ∷ ys) = pick (eqb x y) 0 (suc (place_of x ys))

-- The Target at place `i` of the table store `t`.
unfoldable pub target_at : List ℕ → ℕ → Target
target_at t i = target (get_or t (target_lengths + i) 0) (record { first = get_or t (target_firsts + i) 0; second = get_or t (target_seconds + i) 0 })

-- The table store with the Target `g` at place `i`.
unfoldable pub target_set : List ℕ → ℕ → Target → List ℕ
target_set t i g = set (set (set t (target_lengths + i) g.length) (target_firsts + i) g.bytes.first) (target_seconds + i) g.bytes.second

-- ---- an id is closed: what stands beside it goes with it, and what stands beside the others moves up as they do

-- Of the column that begins at `at`, the numbers beside the given ids, but for those beside `x`.
unfoldable pub beside : ℕ → List ℕ → List ℕ → ℕ → List ℕ
beside x [] t at = []
beside x (y ∷ ys) t at = pick (eqb x y) (beside x ys t (at + 1)) (get_or t at 0 ∷ beside x ys t (at + 1))

-- The table store `t` of `n` ids once what stands beside `x` was taken out of that column.
unfoldable pub column_closed : ℕ → ℕ → ℕ → List ℕ → List ℕ
column_closed x n at t = sets t at (beside x (take n t) t at)

-- The same of all three columns.
unfoldable pub targets_closed : ℕ → ℕ → List ℕ → List ℕ
targets_closed x n t = column_closed x n target_seconds (column_closed x n target_firsts (column_closed x n target_lengths t))
