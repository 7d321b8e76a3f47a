-- `engine::connect::challenge_in` meets its contract: without a challenge none is answered, and else the first of all.
use mathlib.Core.Path.{sym, ap, ◌∙◌}
use mathlib.Core.List.{List}
use Rattle.packet.specs.Header.{Header}
use Rattle.connection.specs.Pieces.{answered_in}
use Rattle.connection.proofs.Challenges.{none-answered}
use Rattle.engine.proofs.LastPacket.{first-value, last_finds, last-headers}
use Rattle.engine.proofs.connect.challenge_in.Goals as goal

pub returns-in_default : goal.returns-in_default
returns-in_default c =
    none-answered _ (sym (first-value 0x4D c.args.packet.now _ (sym (last_finds _ _ c.requires).challenge ∙ c.in_default.is)))

pub returns : goal.returns
returns c =
    let q = c.args.packet.now in
    c.answered_challenge.ensures ∙ ap (λ (hs : List Header). answered_in hs) ((last_finds q _ c.requires).headers ∙ last-headers q)
