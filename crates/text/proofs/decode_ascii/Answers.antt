-- `text::decode_ascii` meets its contract: the bytes up to the first zero are the text's. Assumes nothing.
use mathlib.Core.Path.{◌≡◌, sym}
use native.Mathlib.Omega.{arith}
use lib.ListN.{take}
use lib.Seq.{length-take-le}
use Rattle.text.specs.Unicode.{up_to_zero_of}
use Rattle.text.proofs.Cut.{cut-take, cut-within}
use Rattle.text.proofs.TextSizes.{is_ascii}
use Rattle.text.proofs.decode_ascii.Goals as goal

pub slice_bounds-recode-end : goal.slice_bounds-recode-end
slice_bounds-recode-end c =
    let s = c.args.payload.now in
    sym (length-take-le c.zero_at-end.result s (omega (arith, c.zero_at-end.ensures, cut-within s)))

pub returns : goal.returns
returns c =
    let s = c.args.payload.now in
    let e : take c.zero_at-end.result s ≡ up_to_zero_of s = rw c.zero_at-end.ensures (cut-take s) in
    rw (← is_ascii s, ← e) c.recode.ensures
