-- `connection::peer::is_open` meets its contract: the library's search is membership. Assumes nothing.
use Rattle.std.proofs.Common.{ℕ, eqb, take, ap, ◌∙◌}
use Rattle.std.specs.List.{list_any}
use Rattle.connection.proofs.Open.{any_member}
use Rattle.connection.proofs.peer.is_open.Goals as goal

pub returns : goal.returns
returns c =
    let x = c.args in
    let ids = take x.count x.ids.now in
    c.contains.ensures.value ∙ ap (λ (n : ℕ). list_any (λ (y : ℕ). eqb y n) ids) c.from.ensures ∙ any_member x.id ids
