-- `packet::tlv::put_tag` meets its contract: `room` decides by the tag's length, and the two bytes and the copy are laid at once.
-- Assumes nothing.
use borrow.Author.Rules.{rules}
use native.Mathlib.Omega.{arith}
use Prim.Native.Nat.{◌+◌}
use mathlib.Core.Path.{refl, sym, ◌∙◌}
use lib.ListN.{length, length-set}
use lib.Dec.{ltb}
use borrow.Author.Tests.{ltb-false}
use Rattle.packet.specs.declared.store.LengthField.TheVariants.{OneByte}
use Rattle.packet.specs.Tags.{write_tag, put_tag}
use Rattle.packet.proofs.Laid.{Granted, granted, placed-written, placed-refused}
use Rattle.packet.proofs.TagLaws.{tag-laid}
use Rattle.packet.proofs.tlv.put_tag.Statement.{statement}
use Rattle.packet.proofs.tlv.put_tag.Tie as tie

-- where the room is granted, the tag fits
whole : (c : tie.In-Written) → let r = c.before in let x = r.args in
    Granted (length x.store.now) x.at (2 + length x.value.now) c.in-Written.next (ltb 255 (length x.value.now))
whole c = granted _ _ _ _ OneByte _ (sym c.in-Written.is ∙ c.room-answer.ensures)

add-room : tie.Need-overflow_add-n
add-room c = search rules

room-requires : tie.Need-room-answer-requires
room-requires c κs = search rules

enum-known-answer : tie.Need-enum_known-answer
enum-known-answer c = search rules

returns : tie.Need-returns-in_default
unfolding put_tag
returns c =
    let r = c.before in
    let x = r.args in
    placed-refused x.store.now (write_tag (record { tag = x.tag; value = x.value.now })) x.at _ OneByte
    (ltb 255 (length x.value.now)) _ _ c.in_default.in_default-own.keys2 (omega arith) refl r.room-answer.ensures

slice-write-store : tie.Need-bounds-store-at
slice-write-store c = let w = whole c in omega (arith, w.fits)

cast-store : tie.Need-overflow_cast-store
cast-store c =
    let w = whole c in
    omega (arith, ltb-false 255 (length c.args.value.now) w.allowed)

add-store : tie.Need-overflow_add-store
add-store c = let w = whole c in omega (arith, w.fits)

slice-write-store-2 : tie.Need-bounds-store-at-2
slice-write-store-2 c = let w = whole c in simp length-set (omega (arith, w.fits))

add-copy-into : tie.Need-overflow_add-at
add-copy-into c = let w = whole c.before in omega (arith, w.fits)

copy-into-requires : tie.Need-copy_into-requires
copy-into-requires c κs = let w = whole c.before in simp length-set (omega (arith, w.fits))

same_length : tie.Need-shape_of-store
same_length c = c.store-1.given ∙ simp length-set

returns-2 : tie.Need-returns
unfolding put_tag
returns-2 c =
    let a = c.before.before.before.before in
    let r = a.before in
    let x = r.args in
    let w = whole a in
    placed-written x.store.now (write_tag (record { tag = x.tag; value = x.value.now })) _ x.at _ _ OneByte
    (ltb 255 (length x.value.now)) _ (omega arith) refl (sym a.in-Written.is ∙ r.room-answer.ensures)
    (c.copy_into.ensures ∙ tag-laid x.store.now x.value.now x.at x.tag (omega (arith, w.fits)))

pub put_tag_spec : {M : Type 1} → statement M
put_tag_spec =
    tie.close
    (tie.spec
    add-room
    room-requires
    enum-known-answer
    returns
    slice-write-store
    cast-store
    add-store
    slice-write-store-2
    add-copy-into
    copy-into-requires
    same_length
    returns-2)
