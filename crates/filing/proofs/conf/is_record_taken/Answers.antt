-- `filing::conf::is_record_taken` meets its contract: nothing is said, or any, or the Target is compared. Assumes nothing.
use mathlib.Core.Path.{◌≡◌, refl, sym, subst, ◌∙◌}
use mathlib.Core.Bool.{true, false}
use mathlib.Core.List.{List}
use Prim.Native.Nat.{ℕ}
use Rattle.packet.specs.Auth.{same}
use Rattle.filing.specs.Lines.{bytes}
use Rattle.filing.specs.Conf.{said}
use Rattle.filing.proofs.Configured.{same-told, taken-all, taken_any, taken_mark, taken_by_lem, service_long, service_behind}
use Rattle.filing.proofs.conf.is_record_taken.Goals as goal

pub returns-then-v-eq0 : goal.returns-then-v-eq0
returns-then-v-eq0 c =
    let a = c.args in
    taken-all (said a.text.now (bytes "records")) _ a.target c.said-v.ensures c.if-v-eq0.true

pub returns-then-same : goal.returns-then-same
returns-then-same c =
    let a = c.args in
    taken_any (said a.text.now (bytes "records")) _ a.target c.said-v.ensures c.if-v-eq0.false
    (same-told _ _ c.same.result true c.same.ensures c.if-same.true)

pub returns-then-not-is_named : goal.returns-then-not-is_named
returns-then-not-is_named c =
    let a = c.args in
    taken_mark (said a.text.now (bytes "records")) _ a.target c.said-v.ensures c.if-v-eq0.false
    (same-told _ _ c.same.result false c.same.ensures c.if-same.false) (sym c.is_named.ensures ∙ c.if-not-is_named.true)

-- the folder of a service has its word
pub slice_bounds-same-count : goal.slice_bounds-same-count
slice_bounds-same-count c =
    service_long _ _ c.args.target (sym c.is_named.ensures ∙ c.if-not-is_named.false) c.front-whole.ensures
    c.service_folder-folder.ensures.value

pub slice_bounds-same-start : goal.slice_bounds-same-start
slice_bounds-same-start c =
    service_long _ _ c.args.target (sym c.is_named.ensures ∙ c.if-not-is_named.false) c.front-whole.ensures
    c.service_folder-folder.ensures.value

pub returns : goal.returns
returns c =
    let a = c.args in
    let named = sym c.is_named.ensures ∙ c.if-not-is_named.false in
    let d = service_behind _ _ a.target named c.front-whole.ensures c.service_folder-folder.ensures.value in
    taken_by_lem (said a.text.now (bytes "records")) _ a.target c.said-v.ensures c.if-v-eq0.false
    (same-told _ _ c.same.result false c.same.ensures c.if-same.false) named c.same-2.result
    (subst (λ (x : List ℕ). same c.said-v.result.now x ≡ c.same-2.result) d (same-told c.said-v.result.now _ c.same-2.result
    c.same-2.result c.same-2.ensures refl))
