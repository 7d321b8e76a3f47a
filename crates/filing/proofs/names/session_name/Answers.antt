-- `filing::names::session_name` meets its contract: time, hyphen and digits stand one behind the other. Assumes nothing.
use mathlib.Core.Path.{ap, ap₂, ◌∙◌}
use mathlib.Core.List.{List, ◌∷◌, ◌++◌}
use Prim.Native.Nat.{ℕ}
use lib.ListN.{length}
use Rattle.calendar.specs.Time.{time_of}
use Rattle.filing.specs.Names.{session_name}
use Rattle.filing.proofs.Named.{name-laid, time-written, length-time}
use Rattle.filing.proofs.names.session_name.Goals as goal

pub returns : goal.returns
unfolding session_name
returns c =
    let a = c.args in
    let t = time-written c.write_time.result a.clock c.write_time.new.text c.write_time.ensures in
    let e = name-laid c.write_time.new.text c.hex8-front.result c.hex8-back.result _ _ _
    (ap length t ∙ length-time a.clock)
    (ap length c.hex8-front.ensures) (ap length c.hex8-back.ensures)
    c.copy_into.ensures c.copy_into-2.ensures c.copy_into-3.ensures in
    e ∙ ap (λ (x : List ℕ). x ++ (0x2D ∷ (c.hex8-front.result ++ c.hex8-back.result))) t
    ∙ ap₂ (λ (x y : List ℕ). time_of a.clock ++ (0x2D ∷ (x ++ y))) c.hex8-front.ensures c.hex8-back.ensures
