-- `lines::word::find` meets its contract: the place is that of the first byte that passes. Assumes nothing.
use Rattle.std.proofs.Common.{rules, tests, ◌≡◌, ◌-◌, ap, sym, ◌∙◌, arith, eqb, length, length-drop, take, drop, ℕ}
use Rattle.std.specs.List.{position}
use Rattle.std.proofs.Math.Seq.{take_all}
use Rattle.std.proofs.lemmas.Iterator.{YieldsList-from_slice}
use Rattle.std.proofs.lemmas.Iterator.Search.{position_from_yields_List}
use Rattle.lines.specs.Word.{until_byte, first_from}
use Rattle.lines.proofs.Places.{until_found, until_end}
use Rattle.lines.proofs.word.find.Goals as goal

pub returns-in-Some-clause-place : goal.returns-in-Some-clause-place
unfolding first_from
returns-in-Some-clause-place c =
    let x = c.args in
    let n = length-drop x.from x.s.now in
    let r = take (length x.s.now - x.from) (drop x.from x.s.now) in
    let t : r ≡ drop x.from x.s.now = take_all _ _ (omega arith) in
    let p : c.position.result ≡ position (λ (b : ℕ). eqb b x.byte) r =
    position_from_yields_List (λ (b : ℕ). eqb b x.byte) _ _ _ c.position.ensures.ran (YieldsList-from_slice r cc) (λ y b q k. search (rules, tests))
    in
    let u = until_found x.byte c.in-Some.i r (sym p ∙ c.in-Some.is) in
    let e = ap (until_byte x.byte) t in omega arith

pub returns-in-None-clause-place : goal.returns-in-None-clause-place
unfolding first_from
returns-in-None-clause-place c =
    let x = c.args in
    let n = length-drop x.from x.s.now in
    let r = take (length x.s.now - x.from) (drop x.from x.s.now) in
    let t : r ≡ drop x.from x.s.now = take_all _ _ (omega arith) in
    let p : c.position.result ≡ position (λ (b : ℕ). eqb b x.byte) r =
    position_from_yields_List (λ (b : ℕ). eqb b x.byte) _ _ _ c.position.ensures.ran (YieldsList-from_slice r cc) (λ y b q k. search (rules, tests))
    in
    let u = until_end x.byte r (sym p ∙ c.in-None.is) in
    let e = ap (until_byte x.byte) t in
    let m = ap length t in omega arith
