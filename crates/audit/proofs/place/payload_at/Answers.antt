-- `audit::place::payload_at` meets its contract: a part of what is behind the head. Assumes nothing.
use Rattle.std.proofs.Common.{ℕ, take, drop, ap, ◌∙◌}
use Rattle.audit.proofs.place.payload_at.Goals as goal

pub returns : goal.returns
returns c =
    c.front.ensures ∙ ap (take c.args.n) (c.from_place.ensures
    ∙ ap (λ (k : ℕ). drop k c.args.log.now) c.wrapping_add_usize.ensures.value)
