-- `packet::header::put_bytes` meets its contract: the header is started, and its value copied. Assumes nothing.
use native.Mathlib.Omega.{arith}
use Rattle.packet.specs.HeaderWriter.{header}
use borrow.Enum.Refused.{opened}
use Rattle.packet.proofs.HeaderStore.{started, put_refused, put_written}
use Rattle.packet.proofs.header.put_bytes.Goals as goal

pub returns-in_default : goal.returns-in_default
returns-in_default c =
    let x = c.args in
    put_refused x.store.now _ x.at (header x.id x.value.now) _ _ c.start-answer.ensures (omega arith)
    (omega arith) (opened c.in_default.in_default-own.keys2)

pub overflow_sub-end : goal.overflow_sub-end
overflow_sub-end c =
    let x = c.args in
    let w = started x.store.now _ x.at (header x.id x.value.now) _ _ c.start-answer.ensures (omega arith) (omega arith) _ c.in-Written.is in
    omega (arith, w.ends)

pub copy_into-requires : goal.copy_into-requires
copy_into-requires c =
    let x = c.args in
    let w = started x.store.now _ x.at (header x.id x.value.now) _ _ c.start-answer.ensures (omega arith) (omega arith) _ c.in-Written.is in
    omega (arith, w.ends, w.fits, c.start-answer.auto.store)

pub returns : goal.returns
returns c =
    let x = c.args in
    let w = started x.store.now _ x.at (header x.id x.value.now) _ _ c.start-answer.ensures (omega arith) (omega arith) _ c.in-Written.is in
    put_written x.store.now _ _ x.at (header x.id x.value.now) _ _ w c.copy_into.ensures
