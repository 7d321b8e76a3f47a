-- `connection::reply::send` meets its contract. It is decided by the length first; then the pieces go one after the other. Assumes nothing.
use Rattle.std.proofs.Common.{◌+◌, ◌≤◌, [], length, refl, ◌∙◌, arith}
use Rattle.packet.specs.Codes.{sent_code}
use Rattle.connection.proofs.Replies.{sent-none, sent_replaced, sent-whole, whole-fits, prefix_alone, prefix-headers}
use Rattle.connection.proofs.reply.send.Goals as goal

pub returns-in-TooLarge : goal.returns-in-TooLarge
returns-in-TooLarge c =
    let x = c.args in
    sent-none x.reply.now x.remote x.code [] x.headers.now c.fits.result c.fits.ensures c.in-TooLarge.is

pub returns-in-Replaced : goal.returns-in-Replaced
returns-in-Replaced c =
    let k = c in
    let s = c in
    let x = c.args in
    sent_replaced x.reply.now x.remote x.code [] x.headers.now c.fits.result c.fits.ensures c.in-Replaced.is 3 _ refl
    (c.put_prefix.ensures ∙ rw c.to_byte.ensures (prefix_alone x.reply.now (sent_code 0x50)))

pub put_prefix-requires-in-Whole : goal.put_prefix-requires-in-Whole
put_prefix-requires-in-Whole c =
    let k = c in
    let s = c in
    let x = c.args in
    let h : 3 + length x.headers.now ≤ 65535 =
    whole-fits x.reply.now x.remote x.code [] x.headers.now c.fits.result c.fits.ensures c.in-Whole.is in
    (omega (arith, c.requires), omega arith)

pub copy_into-requires : goal.copy_into-requires
copy_into-requires c =
    let k = c in
    let s = c in
    let x = c.args in
    let h : 3 + length x.headers.now ≤ 65535 =
    whole-fits x.reply.now x.remote x.code [] x.headers.now c.fits.result c.fits.ensures c.in-Whole.is in
    omega (arith, c.requires)

pub returns-in-Whole : goal.returns-in-Whole
returns-in-Whole c =
    let p = c in
    let k = c in
    let s = c in
    let x = c.args in
    let h : 3 + length x.headers.now ≤ 65535 =
    whole-fits x.reply.now x.remote x.code [] x.headers.now c.fits.result c.fits.ensures c.in-Whole.is in
    sent-whole x.reply.now x.remote x.code [] x.headers.now c.fits.result c.fits.ensures c.in-Whole.is _ _ refl
    (c.copy_into.ensures
    ∙ rw (c.put_prefix-in-Whole.ensures, c.to_byte-in-Whole.ensures)
    (prefix-headers x.reply.now x.headers.now (sent_code x.code) (omega (arith, c.requires))))
