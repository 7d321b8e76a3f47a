-- `filing::note::put_note` meets its contract: its lines stand one behind the other. Assumes nothing.
use native.Mathlib.Omega.{arith}
use mathlib.Core.Path.{ap}
use mathlib.Core.List.{List}
use mathlib.Core.Option.{none, some}
use Prim.Native.Nat.{ℕ, ◌-◌}
use lib.Dec.{eqb}
use lib.ListN.{length, take, drop}
use Rattle.base.specs.Pick.{pick}
use Rattle.filing.specs.Note.{record_line, filed_line, headers_line, body_line, target_line, log_line, sum_lines, note_of}
use Rattle.filing.proofs.Contents.{taken_most}
use Rattle.filing.proofs.NoteText.{cut_on, note_parts, laid_as, laid_more}
use Rattle.filing.proofs.note.put_note.Goals as goal

pub put_record-a-requires : goal.put_record-a-requires
put_record-a-requires c =
    omega (arith, c.requires)

pub put_sizes-b-requires : goal.put_sizes-b-requires
put_sizes-b-requires c =
    omega (arith, c.requires, c.put_record-a.ensures.small)

pub slice_bounds-put_target-count : goal.slice_bounds-put_target-count
slice_bounds-put_target-count c =
    omega (arith, c.requires)

pub slice_bounds-put_target-start : goal.slice_bounds-put_target-start
slice_bounds-put_target-start c =
    omega (arith, c.requires)

pub put_target-c-requires : goal.put_target-c-requires
put_target-c-requires c =
    omega (
      arith,
      c.requires,
      c.put_record-a.ensures.small,
      c.put_sizes-b.ensures.small,
    )

pub put_place-d-requires : goal.put_place-d-requires
put_place-d-requires c =
    omega (
      arith,
      c.requires,
      c.put_record-a.ensures.small,
      c.put_sizes-b.ensures.small,
      c.put_target-c.ensures.small,
    )

pub slice_bounds-put_sums-end : goal.slice_bounds-put_sums-end
slice_bounds-put_sums-end c =
    omega (arith, c.requires)

pub put_sums-requires : goal.put_sums-requires
put_sums-requires c =
    omega (
      arith,
      c.requires,
      c.put_record-a.ensures.small,
      c.put_sizes-b.ensures.small,
      c.put_target-c.ensures.small,
      c.put_place-d.ensures.small,
    )

pub returns : goal.returns
unfolding note_of
returns c =
    let a = c.args in
    let h = c.requires in
    let x₁ = c.put_record-a.ensures in
    let x₂ = c.put_sizes-b.ensures in
    let x₃ = c.put_target-c.ensures in
    let x₄ = c.put_place-d.ensures in
    let x₅ = c.put_sums.ensures in
    let n = a.numbers in
    let p = a.payload.now in
    let t = laid_as x₃.value
    (ap (λ (l : List ℕ). target_line (pick (eqb n.target 255) none (some l))) (cut_on p 49 (length p - 49) (omega arith))) in
    let m = taken_most (length p - 49) (drop 49 p) in
    let k = taken_most 16 (drop 16 p) in
    let l₂ = laid_more x₁.value x₂.value (omega (arith, h, x₁.small, x₂.small)) in
    let l₃ = laid_more l₂ t (omega (arith, h, x₁.small, x₂.small, m, x₃.small)) in
    let l₄ = laid_more l₃ x₄.value (omega (arith, h, x₁.small, x₂.small, m, x₃.small, x₄.small)) in
    let l₅ = laid_more l₄ x₅.value (omega (arith, h, x₁.small, x₂.small, m, x₃.small, x₄.small, k, x₅.small)) in record {
      value = laid_as l₅
          (note_parts
          (record_line n.number a.name.now)
          (filed_line a.place.clock)
          (headers_line n.headers)
          (body_line n.body n.blocks)
          (target_line (pick (eqb n.target 255) none (some (drop 49 p))))
          (log_line a.place a.check.now)
          (sum_lines n.blocks (take 16 (drop 16 p)) a.body.now));
      small = omega (arith, h, x₁.small, x₂.small, m, x₃.small, x₄.small, k, x₅.small);
    }
