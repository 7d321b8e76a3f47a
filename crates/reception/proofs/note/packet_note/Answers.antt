-- `reception::note::packet_note` meets its contract: the test is the definition's. Assumes nothing.
use mathlib.Core.Bool.{true, false}
use mathlib.Core.Path.{◌≡◌, sym, ap₂, ◌∙◌}
use Prim.Native.Nat.{ℕ}
use Rattle.server.specs.declared.CallResult.{CallResult}
use Rattle.filing.specs.declared.content.Event.{Event}
use Rattle.reception.specs.Notes.{is_unfinished, total, packet_event, packet_note}
use Rattle.reception.specs.declared.note.Part.TheVariants as part
use Rattle.reception.specs.declared.note.Note.TheVariants as note
use Rattle.reception.proofs.note.packet_note.Goals as goal

goes_on : (b : ℕ) (r : CallResult) → is_unfinished r.outcome r.engine.begun ≡ true → note.Nothing ≡ packet_note b r
unfolding packet_note
goes_on b r e = simp e

has_come : (b : ℕ) (r : CallResult) → is_unfinished r.outcome r.engine.begun ≡ false
    → note.Event (packet_event r.outcome) (part.Packet (total b r.taken)) ≡ packet_note b r
unfolding packet_note
has_come b r e = simp e

pub returns-then-is_unfinished : goal.returns-then-is_unfinished
returns-then-is_unfinished c =
    let x = c.args in
    goes_on x.begun x.res (sym c.is_unfinished.ensures ∙ c.if-is_unfinished.true)

pub returns : goal.returns
returns c =
    let x = c.args in
    ap₂ (λ (v : Event) (n : ℕ). note.Event v (part.Packet n)) c.packet_event.ensures c.total.ensures
    ∙ has_come x.begun x.res (sym c.is_unfinished.ensures ∙ c.if-is_unfinished.false)
