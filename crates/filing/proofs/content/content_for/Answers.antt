-- `filing::content::content_for` meets its contract: it has room or it does not, the parts fit the event or not, and then they are laid. Assumes
-- nothing.
use mathlib.Core.Path.{◌≡◌, sym, ap, ◌∙◌}
use mathlib.Core.Bool.{Bool, true}
use Prim.Native.Nat.{ℕ, ◌+◌, ◌-◌, ◌≤◌}
use native.Mathlib.Omega.{arith}
use lib.Dec.{leb}
use lib.ListN.{drop}
use borrow.Author.Tests.{leb-true}
use Rattle.filing.proofs.Contents.{taken_most, content-short, content-long, content-done}
use Rattle.filing.proofs.content.content_for.Goals as goal

-- what the first test says, of the length that the front has
room : (n m k s : ℕ) (r : Bool) → r ≡ leb (n + k) s → n ≡ m → r ≡ leb (m + k) s
room n m k s r e h = e ∙ ap (λ (x : ℕ). leb (x + k) s) h

-- behind both tests there is room
fits : (n m k s : ℕ) (r : Bool) → r ≡ leb (n + k) s → n ≡ m → r ≡ true → m + k ≤ s
fits n m k s r e h t = leb-true (m + k) s (sym (room n m k s r e h) ∙ t)

pub returns-then-not-has_room : goal.returns-then-not-has_room
returns-then-not-has_room c =
    let a = c.args in
    content-short a.store.now a.event a.first.now a.second.now a.third.now
    (sym (room _ _ _ _ _ c.has_room.ensures c.front_len-n.ensures.value) ∙ c.if-not-has_room.true)

pub returns-then-not-are_parts_right : goal.returns-then-not-are_parts_right
returns-then-not-are_parts_right c =
    let a = c.args in
    content-long a.store.now a.event a.first.now a.second.now a.third.now
    (sym (room _ _ _ _ _ c.has_room.ensures c.front_len-n.ensures.value) ∙ c.if-not-has_room.false)
    (sym c.are_parts_right.ensures ∙ c.if-not-are_parts_right.true)

pub lay-requires : goal.lay-requires
lay-requires c =
    let t = taken_most (c.front_len-n.result - 0) (drop 0 c.front_row-row.result) in
    omega (arith, fits _ _ _ _ _ c.has_room.ensures c.front_len-n.ensures.value c.if-not-has_room.false, t, c.front_len-n.ensures.value)

pub overflow_add-result-2 : goal.overflow_add-result-2
overflow_add-result-2 c =
    omega (arith, fits _ _ _ _ _ c.has_room.ensures c.front_len-n.ensures.value c.if-not-has_room.false, c.front_len-n.ensures.value)

pub overflow_add-result-3 : goal.overflow_add-result-3
overflow_add-result-3 c =
    omega (arith, fits _ _ _ _ _ c.has_room.ensures c.front_len-n.ensures.value c.if-not-has_room.false, c.front_len-n.ensures.value)

pub returns : goal.returns
returns c =
    let a = c.args in
    content-done a.store.now a.event a.first.now a.second.now a.third.now
    c.front_len-n.result c.front_row-row.result _ c.front_len-n.ensures.value
    (sym (room _ _ _ _ _ c.has_room.ensures c.front_len-n.ensures.value) ∙ c.if-not-has_room.false)
    (sym c.are_parts_right.ensures ∙ c.if-not-are_parts_right.false) c.front_row-row.ensures
    c.lay.ensures
