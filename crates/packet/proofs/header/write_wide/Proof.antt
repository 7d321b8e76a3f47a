-- `packet::header::write_wide` meets its contract: nothing, or the text and a zero unit after it. Assumes nothing.
use native.Mathlib.Omega.{arith}
use Prim.Native.Nat.{◌-◌}
use lib.ListN.{length-set}
use Rattle.text.specs.Unicode.{lossy}
use Rattle.text.specs.Text.{unicode_bytes}
use Rattle.packet.specs.Canonical.{terminated16}
use Rattle.packet.proofs.TextStore.{none_pasted, Unit16, unit16, zeros-after}
use borrow.Author.Rules.{rules}
use Rattle.packet.proofs.header.write_wide.Statement.{statement}
use Rattle.packet.proofs.header.write_wide.Tie as tie

returns : tie.Need-returns-then-from-end
returns c =
    let z = c.before.before.before in
    let v = terminated16 (lossy z.args.text.now) in
    none_pasted z.args.store.now v z.args.from (omega (arith, z.requires.0))

-- where there is room, it is for the text and a zero unit
room : (c : tie.Else-from-end) → let z = c.before.before.before in Unit16 z.args.text.now z.args.from z.args.end
room c =
    let z = c.before.before.before in
    unit16 z.args.text.now z.args.from z.args.end z.requires.0 c.if-from-end.false

sub-n : tie.Need-overflow_sub-n
sub-n c = let k = room c in omega (arith, k.ends)

write-units-requires : tie.Need-write_units-requires
write-units-requires c κs =
    let z = c.before.before.before.before in
    let k = room c.before in
    (omega (arith, k.ends), omega (arith, z.requires.1))

slice-write-store : tie.Need-bounds-store-n
slice-write-store c = search rules

add-store : tie.Need-overflow_add-store
add-store c = search rules

slice-write-store-2 : tie.Need-bounds-store-n-2
slice-write-store-2 c =
    let z = c.before.before.before.before.before.before.before in
    let k = room c.before.before.before.before in
    simp length-set (omega (arith, k.ends, z.requires.1, c.store-1.given))

same_length : tie.Need-shape_of-store
same_length c = search rules

returns-2 : tie.Need-returns
returns-2 c =
    let z = c.before.before.before.before.before.before.before in
    let k = room c.before.before.before.before in
    rw k.value_is
    (zeros-after z.args.store.now _ (unicode_bytes z.args.text.now) z.args.from (z.args.end - 2) (omega (arith, k.ends))
    (omega (arith, k.ends, z.requires.1)) c.write_units.ensures)

pub write_wide_spec : {M : Type 1} → statement M
write_wide_spec =
    tie.close
    (tie.spec
    returns
    sub-n
    write-units-requires
    slice-write-store
    add-store
    slice-write-store-2
    same_length
    returns-2)
