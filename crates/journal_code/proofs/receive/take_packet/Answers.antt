-- `journal_code::receive::take_packet` meets its contract: a packet that cannot be read, or one that is acted on (proofs/Calls).
use mathlib.Core.Path.{sym, ◌∙◌}
use Rattle.journal_code.proofs.Calls.{unread, readable, acted}
use Rattle.journal_code.proofs.receive.take_packet.Goals as goal

pub act-requires : goal.act-requires
act-requires c =
    let x = c.args in (
      readable x.s x.p.now x.tables.now x.headers.now x.body.now _ (sym c.read_heading.ensures ∙ c.in-Some.is),
      c.requires.2,
      c.requires.3,
      c.requires.4,
      c.requires.5,
    )

pub returns-in-Some : goal.returns-in-Some
returns-in-Some c =
    let x = c.args in
    c.act.ensures
    ∙ acted x.s x.p.now x.tables.now x.headers.now x.body.now _ (sym c.read_heading.ensures ∙ c.in-Some.is)

pub returns-in-None : goal.returns-in-None
returns-in-None c =
    let x = c.args in
    rw c.unreadable.ensures
    (unread x.s x.p.now x.tables.now x.headers.now x.body.now (sym c.read_heading.ensures ∙ c.in-None.is))
