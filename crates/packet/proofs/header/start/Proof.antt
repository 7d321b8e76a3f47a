-- `packet::header::start` meets its contract: the answer is that of the room. Assumes nothing.
use native.Mathlib.Omega.{arith}
use mathlib.Core.Path.{◌≡◌, sym, ap, ◌∙◌}
use lib.ListN.{length}
use lib.Seq.{sets}
use Rattle.packet.specs.declared.header.HeaderEncoding.{HeaderEncoding}
use Rattle.packet.specs.declared.tlv.Wrote.TheVariants.{Written}
use Rattle.packet.specs.Placed.{putting}
use Rattle.packet.specs.Header.{encoding_of}
use Rattle.packet.specs.HeaderWriter.{room_for, lead_bytes, start_header}
use Rattle.packet.proofs.HeaderStore.{room-written, refused-start}
use borrow.Author.Rules.{rules}
use Rattle.packet.proofs.header.start.Statement.{statement}
use Rattle.packet.proofs.header.start.Tie as tie

-- the answer is that of the header's room
known : (c : tie.After-room-answer) → let x = c.args in
    room_for (encoding_of x.id) (length x.store.now) x.at x.n ≡ c.room-answer.result
known c =
    let x = c.args in
    sym (c.room-answer.ensures ∙ ap (λ (e : HeaderEncoding). room_for e (length x.store.now) x.at x.n) c.encoding-e.ensures)

encoding-requires : tie.Need-encoding-e-requires
encoding-requires c κs = search rules

room-requires : tie.Need-room-answer-requires
room-requires c κs = search rules

enum-known-answer : tie.Need-enum_known-answer
enum-known-answer c = search rules

returns : tie.Need-returns-in_default
unfolding start_header
returns c =
    let x = c.args in
    refused-start x.store.now x.at (lead_bytes (encoding_of x.id) x.id x.n) _ _ c.in_default.in_default-own.keys2 (known c.before)

put-lead-requires : tie.Need-put_lead-requires
put-lead-requires c κs =
    let f = room-written _ _ _ _ _ (sym c.room-answer.ensures ∙ c.in-Written.is) in
    (omega (arith, f.ends, f.fits), f.short)

same_length : tie.Need-shape_of-store
same_length c = search rules

returns-2 : tie.Need-returns
unfolding start_header
returns-2 c =
    let k = c.before.before.before.before.before in
    let x = c.args in
    rw (known k ∙ c.in-Written.is)
    (ap (putting (Written c.in-Written.end))
    (c.put_lead.ensures
    ∙ ap (λ (e : HeaderEncoding). sets x.store.now x.at (lead_bytes e x.id x.n)) k.encoding-e.ensures))

pub start_spec : {M : Type 1} → statement M
start_spec =
    tie.close
    (tie.spec
    encoding-requires
    room-requires
    enum-known-answer
    returns
    put-lead-requires
    same_length
    returns-2)
