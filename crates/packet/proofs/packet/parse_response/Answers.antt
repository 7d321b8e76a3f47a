-- `packet::packet::parse_response` meets its contract: the tests are those of `response_packet`. Assumes nothing.
use borrow.Author.Tests.{lt-ltb, le-ltb}
use mathlib.Core.Path.{refl, sym, ◌∙◌}
use Rattle.packet.proofs.PacketLaws.{answered}
use Rattle.packet.proofs.packet.parse_response.Goals as goal

pub returns-then-not-is_code : goal.returns-then-not-is_code
returns-then-not-is_code c =
    let x = c.args in
    sym (answered x.connect x.p.now _ _ _ _ c.byte_at-first.ensures c.is_code.ensures refl refl ∙ rw c.if-not-is_code.true)

pub returns-then-p-start : goal.returns-then-p-start
returns-then-p-start c =
    let x = c.args in
    sym
    (answered x.connect x.p.now _ _ _ _ c.byte_at-first.ensures c.is_code.ensures c.response_prefix-start.ensures refl
    ∙ rw (c.if-not-is_code.false, lt-ltb _ _ c.if-p-start.true))

pub returns-then-not-is_readable : goal.returns-then-not-is_readable
returns-then-not-is_readable c =
    let x = c.args in
    sym
    (answered x.connect x.p.now _ _ _ _ c.byte_at-first.ensures c.is_code.ensures c.response_prefix-start.ensures c.is_readable.ensures
    ∙ rw (c.if-not-is_code.false, le-ltb _ _ c.if-p-start.false, c.if-not-is_readable.true))

pub returns : goal.returns
returns c =
    let x = c.args in
    sym
    (answered x.connect x.p.now _ _ _ _ c.byte_at-first.ensures c.is_code.ensures c.response_prefix-start.ensures c.is_readable.ensures
    ∙ rw (c.if-not-is_code.false, le-ltb _ _ c.if-p-start.false, c.if-not-is_readable.false))
