-- `files::path::join` meets its contract: a name alone, or folder, slash and name one behind the other, if there is room. Assumes nothing.
use mathlib.Core.Path.{◌≡◌, refl, sym, ap, ◌∙◌}
use mathlib.Core.List.{List}
use Prim.Native.Nat.{ℕ, ◌+◌, ◌≤◌}
use native.Mathlib.Omega.{arith}
use lib.ListN.{length, set, length-set}
use Rattle.packet.specs.Placed.{laid}
use Rattle.packet.proofs.Laid.{length-laid}
use Rattle.files.specs.Path.{in_folder}
use Rattle.files.specs.Store.{filled, fit}
use Rattle.files.proofs.Fitted.{fit_none, fit-fits, fit-room}
use Rattle.files.proofs.Joins.{joined-name, joined-size, joined-least, joined-laid, joined_length}
use Rattle.files.proofs.path.join.Goals as goal

-- a name alone
alone : (f n d e : List ℕ) → length f ≡ 0 → length n ≤ length d → e ≡ laid d 0 n
    → (filled (length n) e ≡ fit (in_folder f n) d) × (length n ≤ length e)
alone f n d e z h p =
    let j = joined-name f n z in
    (fit-fits n d e (length n) h refl p ∙ ap (λ (t : List ℕ). fit t d) (sym j), fit-room n d e (length n) h refl p)

-- both
both : (f n d p q : List ℕ) → (length f ≡ 0 → ⊥) → length f + 1 + length n ≤ length d
    → p ≡ laid d 0 f → q ≡ laid (set p (length f) 0x2F) (length f + 1) n
    → (filled (length f + 1 + length n) q ≡ fit (in_folder f n) d) × (length f + 1 + length n ≤ length q)
both f n d p q h room e g =
    let s = joined-size f n h in
    let l = joined-laid d f n p q h room e g in (
      fit-fits (in_folder f n) d q (length f + 1 + length n) (omega (arith, s)) (sym s) l,
      fit-room (in_folder f n) d q (length f + 1 + length n)
          (omega (arith, s)) (sym s) l,
    )

pub returns-then-path-name : goal.returns-then-path-name
returns-then-path-name c =
    let a = c.args in record {
      value = fit_none (in_folder a.folder.now a.name.now) a.path.now
          (omega (arith, joined-least a.folder.now a.name.now, c.if-path-name.true));
      room = omega arith;
    }

pub returns-then-folder-eq0 : goal.returns-then-folder-eq0
returns-then-folder-eq0 c =
    let a = c.args in
    let p = alone a.folder.now a.name.now a.path.now _ c.if-folder-eq0.true c.if-path-name.false c.copy_into.ensures in
    record { value = p.0; room = p.1 }

pub returns-then-path-name-2 : goal.returns-then-path-name-2
returns-then-path-name-2 c =
    let a = c.args in
    let s = joined-size a.folder.now a.name.now c.if-folder-eq0.false in record {
      value = fit_none (in_folder a.folder.now a.name.now) a.path.now (omega (arith, s));
      room = omega arith;
    }

pub copy_into-requires-3 : goal.copy_into-requires-3
copy_into-requires-3 c =
    let a = c.args in
    let e = ap length c.copy_into-2.ensures ∙ length-laid a.path.now a.folder.now 0 (omega arith) in
    omega (arith, e, length-set c.copy_into-2.new.dst (length a.folder.now) 47)

pub shape_of-path : goal.shape_of-path
shape_of-path c =
    let a = c.args in
    joined_length a.path.now a.folder.now a.name.now _ _ c.if-folder-eq0.false (omega arith) c.copy_into-2.ensures
    c.copy_into-3.ensures

pub returns : goal.returns
returns c =
    let a = c.args in
    let p = both a.folder.now a.name.now a.path.now _ _ c.if-folder-eq0.false (omega arith) c.copy_into-2.ensures c.copy_into-3.ensures in
    record { value = p.0; room = p.1 }
