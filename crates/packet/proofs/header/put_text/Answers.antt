-- `packet::header::put_text` meets its contract: the header is started, and its text written. Assumes nothing.
use native.Mathlib.Omega.{arith}
use Rattle.packet.specs.HeaderWriter.{header, text_value}
use borrow.Enum.Refused.{opened}
use Rattle.packet.proofs.HeaderStore.{started, put_refused, put_written}
use Rattle.packet.proofs.header.put_text.Goals as goal

pub returns-in_default : goal.returns-in_default
returns-in_default c =
    let x = c.args in
    put_refused x.store.now _ x.at (header x.id (text_value x.form x.text.now)) _ _
    c.start-answer.ensures c.text_size-n.ensures (omega arith)
    (opened c.in_default.in_default-own.keys2)

pub overflow_sub-end : goal.overflow_sub-end
overflow_sub-end c =
    let x = c.args in
    let w = started x.store.now _ x.at (header x.id (text_value x.form x.text.now)) _ _ c.start-answer.ensures
    c.text_size-n.ensures (omega arith) _ c.in-Written.is in
    omega (arith, w.size, w.ends)

pub write_text-requires : goal.write_text-requires
write_text-requires c =
    let x = c.args in
    let w = started x.store.now _ x.at (header x.id (text_value x.form x.text.now)) _ _ c.start-answer.ensures
    c.text_size-n.ensures (omega arith) _ c.in-Written.is in
    (omega (arith, w.size, w.ends), omega (arith, w.fits, c.start-answer.auto.store))

pub returns : goal.returns
returns c =
    let x = c.args in
    let w = started x.store.now _ x.at (header x.id (text_value x.form x.text.now)) _ _ c.start-answer.ensures
    c.text_size-n.ensures (omega arith) _ c.in-Written.is in
    put_written x.store.now _ _ x.at (header x.id (text_value x.form x.text.now)) _ _ w c.write_text.ensures
