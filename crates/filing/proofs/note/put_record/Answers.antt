-- `filing::note::put_record` meets its contract: its parts stand one behind the other. Assumes nothing.
use native.Mathlib.Omega.{arith}
use mathlib.Core.Path.{ap, ◌∙◌}
use mathlib.Core.List.{append_assoc}
use lib.ListN.{length}
use Rattle.filing.proofs.Named.{time-written, length-time}
use Rattle.filing.proofs.NoteText.{laid_as, laid_more}
use Rattle.filing.proofs.note.put_record.Goals as goal

pub returns : goal.returns
returns c =
    let a = c.args in
    let t = time-written c.write_time.result a.clock c.write_time.new.text c.write_time.ensures in
    let n = ap length t ∙ length-time a.clock in
    let x₁ = c.put_counted-a.ensures in
    let x₂ = c.put_text-b.ensures in
    let x₃ = c.put_text-c.ensures in
    let x₄ = c.put_text-d.ensures in
    let x₅ = c.put_text.ensures in
    let l₂ = laid_more x₁.value x₂.value (omega (arith, x₁.small, x₂.small)) in
    let l₃ = laid_more l₂ x₃.value (omega (arith, x₁.small, x₂.small, x₃.small)) in
    let l₄ = laid_more l₃ x₄.value (omega (arith, n, x₁.small, x₂.small, x₃.small, x₄.small)) in
    let l₅ = laid_more l₄ x₅.value (omega (arith, n, x₁.small, x₂.small, x₃.small, x₄.small, x₅.small)) in record {
      value = laid_as l₅ (simp (t, append_assoc));
      small = omega (arith, n, x₁.small, x₂.small, x₃.small, x₄.small, x₅.small);
    }
