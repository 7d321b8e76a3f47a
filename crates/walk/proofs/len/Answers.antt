-- `walk::len` meets its contract: what the reader finds says what is left. Assumes nothing.
use native.Mathlib.Omega.{arith}
use Prim.Native.Nat.{ℕ, ◌+◌}
use mathlib.Core.Path.{◌≡◌, refl, sym, ap, ◌∙◌}
use mathlib.Core.List.{List}
use mathlib.Core.Option.{Option, none, some}
use Rattle.packet.specs.declared.header.HeaderAt.TheVariants.{Unreadable, End}
use Rattle.packet.specs.Header.{Header, push, read_headers}
use Rattle.packet.proofs.HeaderLaws.{by_cursor_lem}
use Rattle.std.specs.Prelude.{Some}
use Rattle.walk.specs.Walk.{count_from}
use Rattle.walk.proofs.len.Goals as goal

count-push : (n : ℕ) (h : Header) (r : Option (List Header)) → count_from n (push h r) ≡ count_from (n + 1) r
count-push n h none = refl
count-push n h (some hs) = ap Some (omega arith)

pub overflow_add-n : goal.overflow_add-n
overflow_add-n c = let h = by_cursor_lem _ _ _ (sym c.step.ensures ∙ c.in-At.is) in omega arith

pub loop-end-smaller : goal.loop-end-smaller
loop-end-smaller c = let h = by_cursor_lem _ _ _ (sym c.step.ensures ∙ c.in-At.is) in omega arith

pub loop-end-preserved : goal.loop-end-preserved
loop-end-preserved c =
    let h = by_cursor_lem _ _ _ (sym c.step.ensures ∙ c.in-At.is) in
    let l = c.loop-end in (
      l.invariant.0 ∙ ap (count_from l.n) h.list ∙ count-push l.n _ (read_headers c.args.packet.now c.in-At.end),
      omega arith,
    )

pub returns-in-Unreadable : goal.returns-in-Unreadable
returns-in-Unreadable c =
    let l = c.loop-end in
    sym (l.invariant.0 ∙ ap (count_from l.n) (by_cursor_lem _ _ Unreadable (sym c.step.ensures ∙ c.in-Unreadable.is)))

pub returns-in-End : goal.returns-in-End
returns-in-End c =
    let l = c.loop-end in
    let none_left = (by_cursor_lem _ _ End (sym c.step.ensures ∙ c.in-End.is)).1 in
    sym (l.invariant.0 ∙ ap (count_from l.n) none_left ∙ ap Some (omega arith))
