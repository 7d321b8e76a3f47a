-- `packet::auth::put_realm` meets its contract: three bytes and the copy are the realm's tag, laid at once. Assumes nothing.
use native.Mathlib.Omega.{arith}
use Prim.Native.Nat.{ℕ, ◌+◌, ◌≤◌}
use mathlib.Core.Path.{◌≡◌, ◌∙◌}
use mathlib.Core.Bool.{Bool, true, false}
use mathlib.Core.List.{List, ◌∷◌}
use lib.ListN.{length, length-set}
use Rattle.packet.specs.Tags.{write_tags}
use Rattle.packet.specs.Auth.{realm_tag}
use Rattle.packet.specs.AuthWrite.{given, overlong}
use Rattle.packet.proofs.AuthWrites.{tag-short, tag-none, tag_fits, realm-laid}
use Rattle.packet.proofs.auth.put_realm.Goals as goal

-- where there is a realm, it is short enough and fits
short : (there : Bool) (charset : ℕ) (value : List ℕ) → there ≡ true → overlong (given there (charset ∷ value)) ≡ false → length value ≤ 254
short there charset value t o = omega (arith, tag-short there (charset ∷ value) t o)

room : (there : Bool) (charset at : ℕ) (value store : List ℕ) → there ≡ true
    → at + length (write_tags (realm_tag (given there (charset ∷ value)))) ≤ length store → at + 3 + length value ≤ length store
room there charset at value store t f = omega (arith, tag_fits 2 there (charset ∷ value) at _ t f)

pub returns-then-not-there : goal.returns-then-not-there
returns-then-not-there c = let x = c.args in tag-none 2 x.there x.store.now (x.charset ∷ x.value.now) x.at c.if-not-there.true

pub bounds-store-at : goal.bounds-store-at
bounds-store-at c =
    let x = c.args in omega (arith, room x.there x.charset x.at x.value.now x.store.now c.if-not-there.false c.requires.1)

pub overflow_cast-store : goal.overflow_cast-store
overflow_cast-store c = let x = c.args in omega (arith, short x.there x.charset x.value.now c.if-not-there.false c.requires.0)

pub bounds-store-at-2 : goal.bounds-store-at-2
bounds-store-at-2 c =
    let x = c.args in
    simp length-set (omega (arith, room x.there x.charset x.at x.value.now x.store.now c.if-not-there.false c.requires.1))

pub bounds-store-at-3 : goal.bounds-store-at-3
bounds-store-at-3 c =
    let x = c.args in
    simp length-set (omega (arith, room x.there x.charset x.at x.value.now x.store.now c.if-not-there.false c.requires.1))

pub copy_into-requires : goal.copy_into-requires
copy_into-requires c =
    let x = c.args in
    simp length-set (omega (arith, room x.there x.charset x.at x.value.now x.store.now c.if-not-there.false c.requires.1))

pub returns : goal.returns
returns c =
    let x = c.args in
    c.copy_into.ensures
    ∙ realm-laid x.there x.store.now x.value.now x.charset x.at c.if-not-there.false
    (room x.there x.charset x.at x.value.now x.store.now c.if-not-there.false c.requires.1)
