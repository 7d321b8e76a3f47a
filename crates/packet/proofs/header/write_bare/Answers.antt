-- `packet::header::write_bare` meets its contract: the text fills the part that is lent. Assumes nothing.
use Rattle.packet.proofs.TextStore.{part-text}
use Rattle.packet.proofs.header.write_bare.Goals as goal

pub returns : goal.returns
returns c =
    part-text c.args.store.now _ _ c.args.from c.args.end _ c.requires.0 c.requires.1 c.decode_ascii.ensures
