-- `filing::frame::write_rows` meets its contract: the first row, the payload and zeros stand one behind the other. Assumes nothing.
use mathlib.Core.Path.{refl, ap, ◌∙◌}
use Prim.Native.Nat.{ℕ}
use lib.ListN.{length}
use Rattle.base.specs.Bytes.{bytes32}
use Rattle.filing.specs.Frame.{rows_laid}
use Rattle.filing.proofs.InStore.{rows_written}
use Rattle.filing.proofs.frame.write_rows.Goals as goal

pub returns : goal.returns
returns c =
    let a = c.args in
    let p = a.payload.now in
    rows_written a.store.now _ _ _ c.first_row-row.result p a.at (length p) c.filling.result a.head.number c.kind_number.result
    a.head.clock refl c.filling.ensures c.requires c.first_row-row.ensures c.copy_into.ensures
    c.copy_into-2.ensures c.copy_into-3.ensures
    ∙ ap (λ (w : ℕ). rows_laid a.store.now a.at a.head.number (record { kind = bytes32 w; clock = a.head.clock; payload = p }))
    c.kind_number.ensures
