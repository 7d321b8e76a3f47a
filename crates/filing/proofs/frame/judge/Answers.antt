-- `filing::frame::judge` meets its contract: the check before and the rows are one stretch of the log, and each test is the definition's.
-- Assumes nothing.
use mathlib.Core.Path.{◌≡◌, sym, ap, ◌∙◌}
use mathlib.Core.Bool.{Bool}
use mathlib.Core.List.{List}
use Prim.Native.Nat.{ℕ, ◌+◌, ◌-◌}
use lib.ListN.{take, drop}
use Rattle.digest.specs.Md5.{digest_of}
use Rattle.archive.specs.Block.{same}
use Rattle.filing.specs.Frame.{filling}
use Rattle.filing.proofs.InStore.{found_damaged, found_misplaced, found_malformed, found_frame}
use Rattle.filing.proofs.frame.judge.Goals as goal

-- where the check begins
ends : (at n f : ℕ) → f ≡ filling n → at + 16 + n + f ≡ at + 16 + n + filling n
ends at n f e = ap (λ (x : ℕ). at + 16 + n + x) e

-- what is compared
seen : (s d : List ℕ) (from to : ℕ) (r : Bool) → r ≡ same d (take (to + 16 - to) (drop to s)) → d ≡ digest_of (take (to - from) (drop from s))
    → r ≡ same (digest_of (take (to - from) (drop from s))) (take (to + 16 - to) (drop to s))
seen s d from to r e h = e ∙ ap (λ (u : List ℕ). same u (take (to + 16 - to) (drop to s))) h

pub returns-then-not-is_same : goal.returns-then-not-is_same
returns-then-not-is_same c =
    let a = c.args in
    let to = a.at + 16 + a.n + c.filling.result in
    found_damaged a.log.now a.at a.number a.n c.chain_at.result to c.requires.1
    c.chain_at.ensures.value c.chain_at.ensures.back (ends a.at a.n c.filling.result c.filling.ensures)
    (sym (seen a.log.now _ c.chain_at.result to _ c.is_same.ensures c.digest-check.ensures) ∙ c.if-not-is_same.true)

pub returns-then-be32_at-number : goal.returns-then-be32_at-number
returns-then-be32_at-number c =
    let a = c.args in
    let to = a.at + 16 + a.n + c.filling.result in
    found_misplaced a.log.now a.at a.number a.n c.chain_at.result to c.requires.1
    c.chain_at.ensures.value c.chain_at.ensures.back (ends a.at a.n c.filling.result c.filling.ensures)
    (sym (seen a.log.now _ c.chain_at.result to _ c.is_same.ensures c.digest-check.ensures) ∙ c.if-not-is_same.false)
    (λ e. c.if-be32_at-number.true (c.be32_at.ensures ∙ e))

pub returns-then-not-is_zero : goal.returns-then-not-is_zero
returns-then-not-is_zero c =
    let a = c.args in
    let to = a.at + 16 + a.n + c.filling.result in
    found_malformed a.log.now a.at a.number a.n c.chain_at.result to c.requires.1
    c.chain_at.ensures.value c.chain_at.ensures.back (ends a.at a.n c.filling.result c.filling.ensures)
    (sym (seen a.log.now _ c.chain_at.result to _ c.is_same.ensures c.digest-check.ensures) ∙ c.if-not-is_same.false)
    (sym c.be32_at.ensures ∙ c.if-be32_at-number.false)
    (sym c.is_zero.ensures ∙ c.if-not-is_zero.true)

pub returns : goal.returns
returns c =
    let a = c.args in
    let to = a.at + 16 + a.n + c.filling.result in
    found_frame a.log.now a.at a.number a.n c.chain_at.result to c.requires.1
    c.chain_at.ensures.value c.chain_at.ensures.back (ends a.at a.n c.filling.result c.filling.ensures)
    (sym (seen a.log.now _ c.chain_at.result to _ c.is_same.ensures c.digest-check.ensures) ∙ c.if-not-is_same.false)
    (sym c.be32_at.ensures ∙ c.if-be32_at-number.false)
    (sym c.is_zero.ensures ∙ c.if-not-is_zero.false)
