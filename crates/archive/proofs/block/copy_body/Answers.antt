-- `archive::block::copy_body` meets its contract. No block uses more than 490 bytes, so that the target has room. Assumes nothing.
use mathlib.Core.Path.{◌≡◌, refl, sym, ap, ◌∙◌}
use mathlib.Core.Bool.{Bool, false}
use mathlib.Core.List.{List, [], ◌++◌}
use Prim.Native.Nat.{ℕ, ◌+◌, ◌-◌, ◌*◌, ◌/◌, ◌<◌}
use native.Mathlib.Omega.{arith}
use lib.ListN.{length, take, drop, length-append}
use Rattle.archive.specs.Block.{is_last_block, payload_of, used}
use Rattle.archive.specs.Reading.{Judged, fault_in}
use Rattle.archive.proofs.Laid.{front-more}
use Rattle.archive.proofs.AllRead.{block_at, length-block_at, Passed, Next, passed_none, passed_sound, next, cut-block, cut-payload, passed_all}
use Rattle.archive.proofs.block.copy_body.Goals as goal

-- the block that is copied, and its payload
here : (x : List ℕ) (k r : ℕ) (e : Bool) (b : List ℕ) → Passed x k e b → k < length x / 512 → fault_in x ≡ 0
    → r ≡ used (take (512 * k + 512 - 512 * k) (drop (512 * k) x)) → Next x k b r
here x k r e b p h z u = next x k e b r p h (passed_sound x k e b p h z) (rw (cut-block k) at u)

part : (x : List ℕ) (k r : ℕ) → r ≡ used (take (512 * k + 512 - 512 * k) (drop (512 * k) x))
    → take (6 + r - 6) (drop 6 (take (512 * k + 512 - 512 * k) (drop (512 * k) x))) ≡ payload_of (block_at x k)
part x k r u = cut-payload x k r (rw (cut-block k) at u)

pub loop-k-init : goal.loop-k-init
loop-k-init c = (refl, (false, [], passed_none c.args.blocks.now, refl, refl))

pub used_in-used-requires : goal.used_in-used-requires
used_in-used-requires c = rw (cut-block c.loop-k.k, length-block_at c.args.blocks.now c.loop-k.k (omega arith)) (omega arith)

pub slice_bounds-copy_into-end : goal.slice_bounds-copy_into-end
slice_bounds-copy_into-end c =
    let x = c.args.blocks.now in
    let l = c.loop-k in
    let p = l.invariant.1 in
    let n = here x l.k c.used_in-used.result p.0 p.1 p.2 (omega arith) c.requires.0 c.used_in-used.ensures in
    let m : length (take (512 * l.k + 512 - 512 * l.k) (drop (512 * l.k) x)) ≡ 512 = rw (cut-block l.k) (length-block_at x l.k (omega arith)) in
    omega (arith, n.small)

pub copy_into-requires : goal.copy_into-requires
copy_into-requires c =
    let x = c.args.blocks.now in
    let l = c.loop-k in
    let p = l.invariant.1 in
    let n = here x l.k c.used_in-used.result p.0 p.1 p.2 (omega arith) c.requires.0 c.used_in-used.ensures in
    rw (part x l.k c.used_in-used.result c.used_in-used.ensures) (omega (arith, p.3, n.size, n.small, n.before))

pub loop-k-preserved : goal.loop-k-preserved
loop-k-preserved c =
    let x = c.args.blocks.now in
    let l = c.loop-k in
    let p = l.invariant.1 in
    let r = c.used_in-used.result in
    let n = here x l.k r p.0 p.1 p.2 (omega arith) c.requires.0 c.used_in-used.ensures in
    let y = block_at x l.k in
    let q = payload_of y in
    let laid = front-more p.1 c.args.body.now l.body q l.to r p.4 p.3 n.size (omega (arith, p.3, n.small, n.before)) in
    let e = rw (part x l.k r c.used_in-used.ensures, n.size) at c.copy_into.ensures in
    (omega arith, (is_last_block y, p.1 ++ q, n.passed, omega (arith, length-append p.1 q, p.3, n.size), e ∙ laid))

pub returns : goal.returns
returns c =
    let x = c.args.blocks.now in
    let l = c.loop-k in
    let p = l.invariant.1 in
    let e = passed_all x l.k p.0 p.1 p.2 (omega arith) in
    rw (ap (λ (v : Judged). v.body) e) (p.4 ∙ ap (λ (n : ℕ). p.1 ++ drop n c.args.body.now) (sym p.3))
