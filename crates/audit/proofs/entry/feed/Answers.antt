-- `audit::entry::feed` meets its contract: each arm calls the function of its entry, and a function that is not lent a store leaves it. Assumes
-- nothing.
use Rattle.std.proofs.Common.{◌≡◌, ℕ, List, sym, refl, ap, ◌∙◌}
use Rattle.filing.specs.ReadBack.{entry_with}
use Rattle.filing.specs.declared.entry.EntryRead.{EntryRead}
use Rattle.filing.specs.declared.entry.EntryRead.TheVariants as says
use Rattle.journal_code.specs.declared.state.State.{State}
use Rattle.journal_code.specs.Receive.{Came}
use Rattle.journal_code.specs.Answer.{Tabled, answered_step}
use Rattle.journal_code.specs.Run.{Stores, Held, held, held_came, held_tabled}
use Rattle.audit.specs.Feed.{lent, frame_done}
use Rattle.audit.proofs.entry.feed.Goals as goal

-- the frame says `x`, and that was done
made : (s : State) (z : Stores) (p : List ℕ) (entry x : EntryRead) (m : Held) → entry ≡ x → m ≡ frame_done s z (entry_with x p)
    → m ≡ frame_done s z (entry_with entry p)
made s z p entry x m e done = done ∙ sym (ap (λ (y : EntryRead). frame_done s z (entry_with y p)) e)

-- an answer, by the headers behind its code
behind : (s : State) (t : List ℕ) (code : ℕ) (hs rest : List ℕ) (y : Tabled) → y ≡ answered_step s code hs t → hs ≡ rest
    → y ≡ answered_step s code rest t
behind s t code hs rest y e h = e ∙ ap (λ (l : List ℕ). answered_step s code l t) h

pub returns-in-Packet : goal.returns-in-Packet
returns-in-Packet c =
    let a = c.args in
    made a.s (lent a.packet.now a.headers.now a.body.now a.tables.now) a.payload.now a.entry says.Packet _ c.in-Packet.is
    (ap (λ (y : Came). held_came y a.tables.now) c.received.ensures)

pub returns-in-Reply : goal.returns-in-Reply
returns-in-Reply c =
    let a = c.args in
    let z = lent a.packet.now a.headers.now a.body.now a.tables.now in
    made a.s z a.payload.now a.entry (says.Reply _) _ c.in-Reply.is (ap (λ (s : State). held s z) c.sent.ensures)

pub returns-in-Answer : goal.returns-in-Answer
returns-in-Answer c =
    let a = c.args in
    let z = lent a.packet.now a.headers.now a.body.now a.tables.now in
    made a.s z a.payload.now a.entry (says.Answer _) _ c.in-Answer.is
    (ap (λ (y : Tabled). held_tabled y z) (behind a.s a.tables.now _ _ _ _ c.answered.ensures c.behind_first.ensures))

pub returns-in-Object : goal.returns-in-Object
returns-in-Object c =
    let a = c.args in
    let z = lent a.packet.now a.headers.now a.body.now a.tables.now in
    made a.s z a.payload.now a.entry says.Object _ c.in-Object.is (ap (λ (s : State). held s z) c.object.ensures)

pub returns-in-Check : goal.returns-in-Check
returns-in-Check c =
    let a = c.args in
    let z = lent a.packet.now a.headers.now a.body.now a.tables.now in
    made a.s z a.payload.now a.entry (says.Check _) _ c.in-Check.is (ap (λ (s : State). held s z) c.checked.ensures)

pub returns-in-Nonce : goal.returns-in-Nonce
returns-in-Nonce c =
    let a = c.args in
    let z = lent a.packet.now a.headers.now a.body.now a.tables.now in
    made a.s z a.payload.now a.entry says.Nonce _ c.in-Nonce.is (ap (λ (s : State). held s z) c.nonce.ensures)

pub returns-in-Ids : goal.returns-in-Ids
returns-in-Ids c =
    let a = c.args in
    let z = lent a.packet.now a.headers.now a.body.now a.tables.now in
    made a.s z a.payload.now a.entry says.Ids _ c.in-Ids.is (ap (λ (y : Tabled). held_tabled y z) c.closed.ensures)

pub returns-in-End : goal.returns-in-End
returns-in-End c =
    let a = c.args in
    let z = lent a.packet.now a.headers.now a.body.now a.tables.now in
    made a.s z a.payload.now a.entry says.End _ c.in-End.is (ap (λ (s : State). held s z) c.stream_ended.ensures)

pub returns-in-Nothing : goal.returns-in-Nothing
returns-in-Nothing c =
    let a = c.args in
    made a.s (lent a.packet.now a.headers.now a.body.now a.tables.now) a.payload.now a.entry says.Nothing _ c.in-Nothing.is refl
