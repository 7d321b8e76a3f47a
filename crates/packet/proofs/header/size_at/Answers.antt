-- `packet::header::size_at` meets its contract: each arm is a case of `size_at`. Assumes nothing.
use native.Mathlib.Omega.{arith}
use Rattle.packet.proofs.header.size_at.Goals as goal

pub be16_at-requires : goal.be16_at-requires
be16_at-requires c = let h = rw c.in-Unicode.is at c.requires in omega arith

pub be16_at-requires-in-Bytes : goal.be16_at-requires-in-Bytes
be16_at-requires-in-Bytes c = let h = rw c.in-Bytes.is at c.requires in omega arith

pub returns-in-Unicode : goal.returns-in-Unicode
returns-in-Unicode c = (rw c.in-Unicode.is c.be16_at.ensures.value, c.be16_at.ensures.small)

pub returns-in-Bytes : goal.returns-in-Bytes
returns-in-Bytes c = (rw c.in-Bytes.is c.be16_at-in-Bytes.ensures.value, c.be16_at-in-Bytes.ensures.small)
