-- `incoming::frame::read_offered` meets its contract. A packet that is offered whole is, taken at once, what it is byte by byte (`Jump`).
use Rattle.std.proofs.Common.{ℕ, ap, sym, ◌∙◌, arith}
use Rattle.incoming.specs.Frame.{framed}
use Rattle.incoming.proofs.Jump.{whole_at_once}
use Rattle.incoming.proofs.frame.read_offered.Goals as goal

pub returns-clause-model : goal.returns-clause-model
returns-clause-model c =
    let k = c.args in
    let fits = c.in-Some.ensures.fits in
    let field = c.in-Some.ensures.field in
    whole_at_once k.packet.now _ k.input.now c.in-Some.n field.1 field.0 fits.0 (omega (arith, fits.1, c.requires.1)) c.copy_into.ensures
    ∙ ap (λ (b : ℕ). framed k.packet.now b 0 k.input.now) (sym c.if-begun-eq0.true)
