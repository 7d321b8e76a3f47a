-- `reception::note::note_by` meets its contract: each arm is that of the definition. Assumes nothing.
use mathlib.Core.Path.{◌≡◌, sym, ap, ◌∙◌}
use Prim.Native.Nat.{ℕ}
use Rattle.server.specs.declared.CallResult.{CallResult}
use Rattle.filing.specs.declared.content.Event.TheVariants.{Checked, Ended}
use Rattle.filing.specs.declared.payload.CheckMade.{CheckMade}
use Rattle.reception.specs.Notes.{note_by}
use Rattle.reception.specs.declared.answer.Answer.{Answer}
use Rattle.reception.specs.declared.note.Part.TheVariants as part
use Rattle.reception.specs.declared.note.Note.TheVariants as note
use Rattle.reception.proofs.note.note_by.Goals as goal

-- the decision is `x`
arm : (v : Answer) (n : ℕ) (r : CallResult) {x : Answer} → v ≡ x → note_by x n r ≡ note_by v n r
arm v n r e = sym (ap (λ (y : Answer). note_by y n r) e)

pub returns-in-Offer : goal.returns-in-Offer
returns-in-Offer c = c.packet_note.ensures ∙ arm c.args.answer c.args.begun c.args.res c.in-Offer.is

pub returns-in-End : goal.returns-in-End
returns-in-End c = ap (λ (k : ℕ). note.Event (Ended k) part.Nothing) c.end_number_at.ensures ∙ arm c.args.answer c.args.begun c.args.res c.in-End.is

pub returns-in-Sent : goal.returns-in-Sent
returns-in-Sent c = arm c.args.answer c.args.begun c.args.res c.in-Sent.is

pub returns-in-Reply : goal.returns-in-Reply
returns-in-Reply c = arm c.args.answer c.args.begun c.args.res c.in-Reply.is

pub returns-in-Object : goal.returns-in-Object
returns-in-Object c = arm c.args.answer c.args.begun c.args.res c.in-Object.is

pub returns-in-Body : goal.returns-in-Body
returns-in-Body c = arm c.args.answer c.args.begun c.args.res c.in-Body.is

pub returns-in-BodyFailed : goal.returns-in-BodyFailed
returns-in-BodyFailed c = arm c.args.answer c.args.begun c.args.res c.in-BodyFailed.is

pub returns-in-Acknowledge : goal.returns-in-Acknowledge
returns-in-Acknowledge c = arm c.args.answer c.args.begun c.args.res c.in-Acknowledge.is

pub returns-in-Password : goal.returns-in-Password
returns-in-Password c = ap (λ (k : CheckMade). note.Event (Checked k) part.Nothing) c.check_note.ensures ∙ arm c.args.answer c.args.begun c.args.res c.in-Password.is

pub returns-in-Nonce : goal.returns-in-Nonce
returns-in-Nonce c = arm c.args.answer c.args.begun c.args.res c.in-Nonce.is

pub returns-in-Credentials : goal.returns-in-Credentials
returns-in-Credentials c = arm c.args.answer c.args.begun c.args.res c.in-Credentials.is

pub returns-in-NoCredentials : goal.returns-in-NoCredentials
returns-in-NoCredentials c = arm c.args.answer c.args.begun c.args.res c.in-NoCredentials.is
