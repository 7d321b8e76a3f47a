-- `filing::conf::is_packet_limit` meets its contract, by both limits. Assumes nothing.
use borrow.Author.Tests.{lt-ltb, le-ltb}
use Rattle.filing.specs.Conf.{packet_limit}
use Rattle.filing.proofs.conf.is_packet_limit.Goals as goal

pub returns-then-n-lt255 : goal.returns-then-n-lt255
unfolding packet_limit
returns-then-n-lt255 c = simp (lt-ltb _ _ c.if-n-lt255.true)

pub returns : goal.returns
unfolding packet_limit
returns c = simp (le-ltb _ _ c.if-n-lt255.false)
