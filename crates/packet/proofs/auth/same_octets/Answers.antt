-- `packet::auth::same_octets` meets its contract: bytes and numbers go over into each other, so equal numbers are equal bytes, and two pairs
-- of numbers are equal exactly if their differences, taken together, have no bit.
-- Assumes nothing.
use borrow.Author.Rules.{rules}
use mathlib.Core.Path.{sym, ◌∙◌}
use Rattle.packet.proofs.AuthLaws.{octets-same, differ_none}
use Rattle.packet.proofs.auth.same_octets.Goals as goal

pub returns : goal.returns
returns c =
    let x = c.args in
    differ_none x.a.first x.b.first x.a.second x.b.second
    ∙ sym (octets-same x.a x.b (search rules) (search rules) (search rules) (search rules))
