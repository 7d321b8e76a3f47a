-- `packet::auth::put_user` meets its contract: the tag that was put is the list of the one tag. Assumes nothing.
use mathlib.Core.Path.{◌≡◌, ◌∙◌}
use Rattle.packet.proofs.Laid.{put-laid}
use Rattle.packet.proofs.AuthWrites.{tag-short, tag-none, tag-there, tag_fits}
use Rattle.packet.proofs.auth.put_user.Goals as goal

pub returns-then-not-there : goal.returns-then-not-there
returns-then-not-there c = let x = c.args in tag-none 1 x.there x.store.now x.user.now x.at c.if-not-there.true

pub returns : goal.returns
returns c =
    let x = c.args in
    let t : x.there ≡ _ = c.if-not-there.false in
    put-laid x.store.now x.user.now _ x.at 1 _ (tag-short x.there x.user.now t c.requires.0) (tag_fits 1 x.there x.user.now x.at _ t c.requires.1)
    c.put_tag.ensures
    ∙ tag-there 1 x.there x.store.now x.user.now x.at t
