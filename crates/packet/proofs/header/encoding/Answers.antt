-- `packet::header::encoding` meets its contract: the tests are those of `encoding_of`, in its order. Assumes nothing.
use borrow.Author.Tests.{lt-ltb, le-ltb}
use Rattle.packet.specs.Header.{encoding_of}
use Rattle.packet.proofs.header.encoding.Goals as goal

pub returns-then-id-lt64 : goal.returns-then-id-lt64
unfolding encoding_of
returns-then-id-lt64 c = simp (lt-ltb _ _ c.if-id-lt64.true)

pub returns-then-id-lt128 : goal.returns-then-id-lt128
unfolding encoding_of
returns-then-id-lt128 c = simp (le-ltb _ _ c.if-id-lt64.false, lt-ltb _ _ c.if-id-lt128.true)

pub returns-then-id-lt192 : goal.returns-then-id-lt192
unfolding encoding_of
returns-then-id-lt192 c = simp (le-ltb _ _ c.if-id-lt64.false, le-ltb _ _ c.if-id-lt128.false, lt-ltb _ _ c.if-id-lt192.true)

pub returns : goal.returns
unfolding encoding_of
returns c = simp (le-ltb _ _ c.if-id-lt64.false, le-ltb _ _ c.if-id-lt128.false, le-ltb _ _ c.if-id-lt192.false)
