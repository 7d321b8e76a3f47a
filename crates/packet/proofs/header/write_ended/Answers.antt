-- `packet::header::write_ended` meets its contract: the text, and a zero after it. Assumes nothing.
use native.Mathlib.Omega.{arith}
use mathlib.Core.List.{[], ◌∷◌}
use Prim.Native.Nat.{◌-◌}
use lib.ListN.{length-append}
use Rattle.text.specs.Text.{ascii_text}
use Rattle.packet.proofs.TextStore.{zero-after}
use Rattle.packet.proofs.header.write_ended.Goals as goal

pub overflow_sub-n : goal.overflow_sub-n
overflow_sub-n c = omega (arith, c.requires.0, length-append (ascii_text c.args.text.now) (0 ∷ []))

pub write_bare-requires : goal.write_bare-requires
write_bare-requires c =
    let k = length-append (ascii_text c.args.text.now) (0 ∷ []) in
    (omega (arith, c.requires.0), omega (arith, c.requires.1))

pub bounds-store-n : goal.bounds-store-n
bounds-store-n c =
    omega (arith, c.store-1.given, c.requires.0, c.requires.1, length-append (ascii_text c.args.text.now) (0 ∷ []))

pub returns : goal.returns
returns c =
    let t = ascii_text c.args.text.now in
    let k = length-append t (0 ∷ []) in
    zero-after c.args.store.now _ t c.args.from (c.args.end - 1) (omega (arith, c.requires.0))
    (omega (arith, c.requires.0, c.requires.1)) c.write_bare.ensures
