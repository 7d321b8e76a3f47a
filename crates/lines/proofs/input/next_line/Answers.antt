-- `lines::input::next_line` meets its contract: if the end of the line is in the store, the line is the one that the definition names; what else is
-- read is the kernel's to say. Assumes nothing.
use mathlib.Core.Path.{◌≡◌, refl, ap, ◌∙◌}
use mathlib.Core.List.{List}
use mathlib.Core.Bool.{Bool, true, false}
use native.Mathlib.Omega.{arith}
use Prim.Native.Nat.{ℕ, ◌+◌, ◌-◌, ◌≤◌}
use lib.ListN.{length, take, drop}
use borrow.Author.Tests.{le-ltb}
use Rattle.lines.specs.declared.input.Line.{Line}
use Rattle.lines.specs.Word.{first_from, line_feed}
use Rattle.lines.specs.Output.{least_of}
use Rattle.lines.specs.Input.{has_cut, has_line, line_after}
use Rattle.lines.proofs.Places.{differs}
use borrow.Author.Rules.{rules}
use Rattle.lines.proofs.input.next_line.Goals as goal

-- of what the code has: how much there is, where the line starts and ends, and whether it was cut
whole : (s : List ℕ) (x : Line) (have start end : ℕ) (cut : Bool) → have ≡ least_of x.have (length s) → start ≡ least_of x.next have
    → end ≡ first_from (take (have - 0) (drop 0 s)) start line_feed
    → cut ≡ has_cut x
    → record { start = start; end = end; next = end + 1; have = have; is_there = true; is_cut = cut; is_over = false } ≡ line_after s x
whole s x have start end cut h n e k =
    let z : have - 0 ≡ have = omega arith in
    let f : end ≡ first_from (take have s) start line_feed = e ∙ ap (λ (m : ℕ). first_from (take m s) start line_feed) z in
    rw (← k, ← h, ← n, ← f) refl

not-whole : (s : List ℕ) (x : Line) (have start end : ℕ) → have ≡ least_of x.have (length s) → start ≡ least_of x.next have
    → end ≡ first_from (take (have - 0) (drop 0 s)) start line_feed
    → have ≤ end
    → has_line s x ≡ false
not-whole s x have start end h n e l =
    let z : have - 0 ≡ have = omega arith in
    let f : end ≡ first_from (take have s) start line_feed = e ∙ ap (λ (m : ℕ). first_from (take m s) start line_feed) z in
    rw (← h, ← n, ← f) (le-ltb _ _ l)

pub returns-then-end-have : goal.returns-then-end-have
returns-then-end-have g c =
    let z = c in record {
      bounds = search rules;
      whole = (λ t. (
        whole _ c.args.before _ _ _ _ c.least-have.ensures.least c.least-start.ensures.least
            c.find-end.ensures.place c.has_cut-is_cut.ensures,
        refl,
      ));
    }

pub returns : goal.returns
returns g c =
    let z = c in
    let y = c in
    let at-find = c in record {
      bounds = search rules;
      whole = (λ t.
          absurd
          (differs _
          (not-whole _ c.args.before _ _ _ c.least-have.ensures.least
          c.least-start.ensures.least c.find-end.ensures.place
          c.if-end-have.false) t));
    }
