-- Parts of a list that are equal start and end at the same places. Assumes nothing.
use Rattle.std.specs.Prelude.{◌≡◌, ℕ}
use Rattle.std.proofs.Common.{ap}
use Rattle.base.specs.Place.{Place, span, Some, None}

abbrev start_of : Place → ℕ
start_of None = 0
start_of (Some p) = p.start

abbrev end_of : Place → ℕ
end_of None = 0
end_of (Some p) = p.end

pub span_start : (b e f t : ℕ) → span b e ≡ span f t → b ≡ f
span_start b e f t q = ap start_of q

pub span_end : (b e f t : ℕ) → span b e ≡ span f t → e ≡ t
span_end b e f t q = ap end_of q
