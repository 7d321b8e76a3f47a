-- `archive::block::judge` meets its contract: the fault of the next block, if it has one, is the fault of all; behind the last block the rest
-- decides. Assumes nothing.
use mathlib.Core.Path.{◌≡◌, refl, sym, ap, ◌∙◌}
use mathlib.Core.List.{[], ◌++◌}
use Prim.Native.Nat.{◌/◌}
use native.Mathlib.Omega.{arith}
use lib.ListN.{length, length-append}
use Rattle.std.proofs.Common.{Err}
use Rattle.archive.specs.Block.{payload_of, fault_of}
use Rattle.archive.specs.Reading.{Judged, fault_in, error_number}
use Rattle.archive.proofs.OneBlock.{fault-numbers}
use Rattle.archive.proofs.AllRead.{block_at, length-block_at, passed_none, passed_faulty, faulty_count, all-count, next, cut-block, passed_all, fault-left-over, fault_no_last, fault-none}
use Rattle.archive.proofs.AllRead.{number_refused, fault_found, fault_absent, faulty_body, malformed_body, sound_body}
use Rattle.archive.proofs.block.judge.Goals as goal
use Rattle.archive.proofs.block.judge.Goals.{then-blocks-ne0-via-then-blocks-ne0, then-blocks-ne0-via-else-blocks-ne0+then-not-is_ended}

pub loop-k-init : goal.loop-k-init
loop-k-init c = ([], refl, passed_none c.args.blocks.now)

pub fault_of-requires : goal.fault_of-requires
fault_of-requires c =
    let p = c.loop-k.invariant.2.short in
    rw (cut-block c.loop-k.k) (length-block_at c.args.blocks.now c.loop-k.k (omega arith), omega (arith, c.loop-k.invariant.1))

pub returns-in-Some : goal.returns-in-Some
returns-in-Some c =
    let x = c.args.blocks.now in
    let l = c.loop-k in
    let b = l.invariant.0 in
    let p = l.invariant.2 in
    let f = fault_of l.k l.is_ended (length b) (block_at x l.k) in
    let e = rw (cut-block l.k, ← l.invariant.1) at c.fault_of.ensures in
    let d = fault_found f c.in-Some.error (sym e ∙ c.in-Some.is) in
    let t : fault_in x ≡ f = passed_faulty x l.k l.is_ended b p (omega arith) d.0 in
    let n = fault-numbers l.k l.is_ended (length b) (block_at x l.k) (omega (arith, d.0)) in
    record {
      fault = ap error_number d.1 ∙ number_refused f n.0 n.1 ∙ sym t;
      sound = sym (faulty_count x l.k l.is_ended b p (omega arith) d.0);
      body = ap Err d.1 ∙ faulty_body x f t d.0;
    }

pub is_last_block-is_ended-requires : goal.is_last_block-is_ended-requires
is_last_block-is_ended-requires c = rw (cut-block c.loop-k.k, length-block_at c.args.blocks.now c.loop-k.k (omega arith)) (omega arith)

pub used_in-total-requires : goal.used_in-total-requires
used_in-total-requires c = rw (cut-block c.loop-k.k, length-block_at c.args.blocks.now c.loop-k.k (omega arith)) (omega arith)

pub loop-k-preserved : goal.loop-k-preserved
loop-k-preserved c =
    let x = c.args.blocks.now in
    let l = c.loop-k in
    let b = l.invariant.0 in
    let y = block_at x l.k in
    let e = rw (cut-block l.k, ← l.invariant.1) at c.fault_of.ensures in
    let z = fault_absent (fault_of l.k l.is_ended (length b) y) (sym e ∙ c.in_default.is) in
    let n = next x l.k l.is_ended b c.used_in-total.result l.invariant.2 (omega arith) z (rw (cut-block l.k) at c.used_in-total.ensures) in
    rw (c.is_last_block-is_ended.ensures, cut-block l.k) (b ++ payload_of y, omega (arith, length-append b (payload_of y), l.invariant.1, n.size), n.passed)

pub returns-then-blocks-ne0 : goal.returns-then-blocks-ne0
returns-then-blocks-ne0 c =
    let x = c.args.blocks.now in
    let l = c.loop-k in
    let p = l.invariant.2 in
    let m : length x / 512 ≡ l.k = omega arith in
    let f : fault_in x ≡ 13 =
    elim c.then-blocks-ne0.branch [
      | then-blocks-ne0-via-then-blocks-ne0 w ↦ fault-left-over x l.k l.is_ended l.invariant.0 p (omega arith) w.if-blocks-ne0.true
      | then-blocks-ne0-via-else-blocks-ne0+then-not-is_ended w ↦ fault_no_last x l.k l.is_ended l.invariant.0 p (omega arith) w.if-not-is_ended.true w.if-blocks-ne0.false
    ]
    in
    record {
      fault = sym f;
      sound = m ∙ sym (all-count x l.k l.is_ended l.invariant.0 p (omega arith));
      body = malformed_body x f;
    }

pub returns : goal.returns
returns c =
    let x = c.args.blocks.now in
    let l = c.loop-k in
    let p = l.invariant.2 in
    let m : length x / 512 ≡ l.k = omega arith in
    let e = passed_all x l.k l.is_ended l.invariant.0 p (omega arith) in
    let f = fault-none x l.k l.is_ended l.invariant.0 p (omega arith) c.if-not-is_ended.false c.if-blocks-ne0.false in
    record {
      fault = sym f;
      sound = m ∙ sym (all-count x l.k l.is_ended l.invariant.0 p (omega arith));
      body = sound_body x l.total f (ap (λ (v : Judged). length v.body) e ∙ l.invariant.1);
    }
