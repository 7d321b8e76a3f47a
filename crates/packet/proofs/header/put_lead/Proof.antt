-- `packet::header::put_lead` meets its contract: the id alone, or the two bytes of a length after it. Assumes nothing.
use native.Mathlib.Omega.{arith}
use mathlib.Core.Path.{◌≡◌, sym, ◌∙◌}
use Prim.Native.Nat.{suc, ◌+◌}
use lib.ListN.{length-set}
use Rattle.packet.proofs.HeaderStore.{lead-one, Three, lead_three}
use Rattle.packet.proofs.HeaderBytes.{lead-some}
use borrow.Author.Rules.{rules}
use Rattle.packet.proofs.header.put_lead.Statement.{statement}
use Rattle.packet.proofs.header.put_lead.Tie as tie

slice-write-store : tie.Need-bounds-store-at
slice-write-store c = omega (arith, lead-some c.args.e, c.requires.0)

lead-requires : tie.Need-lead-requires
lead-requires c κs = search rules

same_length : tie.Need-shape_of-store-then-lead-eq1
same_length c = search rules

returns : tie.Need-returns-then-lead-eq1
returns c =
    let x = c.args in
    rw (lead-one x.e x.id x.n (sym c.lead.ensures.0 ∙ c.if-lead-eq1.true))

-- where the lead is not one byte, it is three, and the length fits
three : (c : tie.Else-lead-eq1) → let x = c.args in Three x.e x.id x.n
three c =
    let z = c.before.before.before in
    lead_three z.args.e z.args.id z.args.n (λ q. c.if-lead-eq1.false (c.lead.ensures.0 ∙ q)) z.requires.1

add-store : tie.Need-overflow_add-store
add-store c = let t = three c in omega (arith, t.small)

cast-store : tie.Need-overflow_cast-store
cast-store c = let t = three c in omega (arith, t.small)

add-store-2 : tie.Need-overflow_add-store-2
add-store-2 c = search rules

slice-write-store-2 : tie.Need-bounds-store-at-2
slice-write-store-2 c = let t = three c in simp length-set (omega (arith, t.three, c.requires.0))

add-store-3 : tie.Need-overflow_add-store-3
add-store-3 c = let t = three c in omega (arith, t.three, c.requires.0)

cast-store-2 : tie.Need-overflow_cast-store-2
cast-store-2 c = search rules

add-store-4 : tie.Need-overflow_add-store-4
add-store-4 c = search rules

slice-write-store-3 : tie.Need-bounds-store-at-3
slice-write-store-3 c = let t = three c in simp length-set (omega (arith, t.three, c.requires.0))

same-length-2 : tie.Need-shape_of-store
same-length-2 c = search rules

returns-2 : tie.Need-returns
returns-2 c =
    let x = c.args in
    let t = three c in
    let p : x.at + 1 ≡ suc x.at = omega arith in
    let q : x.at + 2 ≡ suc (suc x.at) = omega arith in
    rw (t.bytes, p, q)

pub put_lead_spec : {M : Type 1} → statement M
put_lead_spec =
    tie.close
    (tie.spec
    slice-write-store
    lead-requires
    same_length
    returns
    add-store
    cast-store
    add-store-2
    slice-write-store-2
    add-store-3
    cast-store-2
    add-store-4
    slice-write-store-3
    same-length-2
    returns-2)
