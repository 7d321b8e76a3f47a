-- Bytes are printed in hexadecimal, 512 at a time (`Hexed`). Assumes nothing.
use Rattle.std.proofs.Common.{◌≡◌, ℕ, ◌≤◌, ◌*◌, min, List, [], ◌++◌, length, sym, ap, ◌∙◌, arith, rules, append_assoc}
use Rattle.std.proofs.Output.{has_written_append}
use Rattle.std.specs.Slice.Iter.{chunks_rest}
use Rattle.std.proofs.lemmas.Str.{IsUtf8-from_ascii}
use Rattle.lines.specs.Output.{hex_of}
use Rattle.lines.proofs.Hexed.{hex_append, hex_ascii, hex_taken}
use Rattle.lines.proofs.printed.HexDisplay.fmt.Goals as goal

pub unreachable-requires : goal.unreachable-requires
unreachable-requires g c =
    let part = c.in-Some.part.now in
    let size = c.loop-part.invariant.2 in
    let room = c.loop-part.invariant.3 in
    let short : length part ≡ min 512 (length (chunks_rest c.loop-part.part-iterator)) = rw size at c.in-Some.ensures.steps.1.1 in
    let text = hex_taken c.loop-part.store part c.digits-n.new.out c.digits-n.result c.digits-n.ensures.text (omega arith) in
    c.in_default.ensures.cases.0 (rw text (IsUtf8-from_ascii (hex_of part) (hex_ascii part)))

pub loop-part-preserved : goal.loop-part-preserved
loop-part-preserved g c =
    let part = c.in-Some.part.now in
    let steps = c.in-Some.ensures.steps in
    let size = c.loop-part.invariant.2 in
    let room = c.loop-part.invariant.3 in
    let short : length part ≡ min 512 (length (chunks_rest c.loop-part.part-iterator)) = rw size at steps.1.1 in
    let text = hex_taken c.loop-part.store part c.digits-n.new.out c.digits-n.result c.digits-n.ensures.text (omega arith) in
    let shown : c.in-Ok.text.now ≡ hex_of part = c.in-Ok.ensures.cases.0 ∙ text in (
      search rules,
      tt,
      steps.0 ∙ size,
      search rules,
      λ plain.
          let so_far = c.loop-part.invariant.4 plain in (
            so_far.0 ++ c.in-Ok.text.now,
            has_written_append _ _ _ _ _ _ so_far.1 (search rules),
            append_assoc so_far.0 _ _
                ∙ ap (λ (t : List ℕ). so_far.0 ++ t)
                (rw shown (hex_append part (chunks_rest c.next.new.self)) ∙ ap hex_of (sym steps.1.0))
                ∙ so_far.2,
          ),
    )
