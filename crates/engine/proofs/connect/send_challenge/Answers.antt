-- `engine::connect::send_challenge` meets its contract. The settings' flags and the realm's bytes are the challenge's.
use mathlib.Core.Path.{◌∙◌}
use Rattle.engine.proofs.Challenged.{options_are, realm_is, realm-fits}
use Rattle.engine.proofs.connect.send_challenge.Goals as goal

pub challenge_reply-requires : goal.challenge_reply-requires
challenge_reply-requires c =
    (c.requires.1, realm-fits c.args.settings c.args.realm.now c.requires.0)

pub returns : goal.returns
returns c =
    let k = c.args in
    c.challenge_reply.ensures ∙ simp (options_are k.settings, realm_is k.settings k.realm.now)
