-- `digest::md5::span_in` meets its contract. The code is the definition, and the bounds are `span_fits` and `span_within`. Assumes nothing.
use Rattle.std.proofs.Common.{◌≡◌, ◌+◌, ◌≤◌, sym, subst}
use Rattle.digest.specs.declared.md5.Span.{Span}
use Rattle.digest.specs.Turn.{span_of}
use Rattle.digest.proofs.Blocks.{span_fits, span_within}
use Rattle.digest.proofs.md5.span_in.Goals as goal

pub returns : goal.returns
unfolding span_of
returns c =
    let x = c.args in
    let e : ◌≡◌ {A = Span}
    (record { place = c.min-place.result; skip = c.min-skip.result; count = c.min.result })
    (span_of x.at x.from x.n) =
    rw (c.min.ensures, c.min-skip.ensures, c.saturating_sub-2.ensures, c.min-place.ensures, c.saturating_sub.ensures) in (
      e,
      subst (λ (s : Span). s.place + s.count ≤ 64) (sym e) (span_fits x.at x.from x.n),
      subst (λ (s : Span). s.skip + s.count ≤ x.n) (sym e) (span_within x.at x.from x.n),
    )
