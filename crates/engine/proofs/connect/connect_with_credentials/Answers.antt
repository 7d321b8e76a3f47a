-- `engine::connect::connect_with_credentials` meets its contract: its ways are those of `credentials_by`, by the operation and the user id's length.
-- Assumes nothing.
use borrow.Enum.Refused.{opened}
use mathlib.Core.Bool.{◌&&◌}
use mathlib.Core.Path.{◌≡◌, ap, ◌∙◌}
use Rattle.server.specs.declared.CallResult.{CallResult}
use Rattle.engine.specs.Step.{written}
use Rattle.engine.proofs.Guards.{prefix_in}
use Rattle.engine.proofs.Accepts.{credentials-other, credentials-long, credentials_go, user-fits, waiting-length}
use Rattle.engine.proofs.connect.connect_with_credentials.Goals as goal
use Rattle.engine.proofs.connect.connect_with_credentials.Goals.{then-has_credentials, else-has_credentials}

pub returns-in_default : goal.returns-in_default
returns-in_default c =
    let k = c.args in
    ap (λ (r : CallResult). written r k.reply.now) c.refuse.ensures
    ∙ credentials-other k.e.operation k.e _ k.packet.now k.headers.now k.reply.now (opened c.in_default.in_default-own.keys2)

pub returns-then-is_long : goal.returns-then-is_long
returns-then-is_long c =
    let k = c.args in
    let b : c.if-has_credentials.named ≡ k.has_credentials && k.has_user =
    elim c.if-has_credentials.branch [
      | then-has_credentials w ↦ rw w.if-has_credentials.true w.named-is
      | else-has_credentials w ↦ w.named-is ∙ rw w.if-has_credentials.false
    ] in
    credentials-long k.has_credentials k.has_user _ b k.user.now k.password.now
    k.e.operation _ _ _ c.in-Connecting.is k.e k.packet.now k.headers.now k.reply.now
    _ c.is_long.ensures c.if-is_long.true _ c.refuse-then-is_long.ensures

pub slice_bounds-connect_sends-end : goal.slice_bounds-connect_sends-end
slice_bounds-connect_sends-end c =
    (prefix_in _ _ (waiting-length _ _ _ _ _ c.in-Connecting.is c.requires.0) c.requires.2).count

pub connect_sends-requires : goal.connect_sends-requires
connect_sends-requires c =
    let k = c.args in
    let b : c.if-has_credentials.named ≡ k.has_credentials && k.has_user =
    elim c.if-has_credentials.branch [
      | then-has_credentials w ↦ rw w.if-has_credentials.true w.named-is
      | else-has_credentials w ↦ w.named-is ∙ rw w.if-has_credentials.false
    ] in
    let p = c.requires in (
      p.3,
      p.1,
      (prefix_in _ _ (waiting-length _ _ _ _ _ c.in-Connecting.is p.0) p.2).short,
      user-fits k.has_credentials k.has_user _ b k.user.now k.password.now _ c.is_long.ensures c.if-is_long.false,
      c.last_connect.ensures,
    )

pub returns : goal.returns
returns c =
    let k = c.args in
    let b : c.if-has_credentials.named ≡ k.has_credentials && k.has_user =
    elim c.if-has_credentials.branch [
      | then-has_credentials w ↦ rw w.if-has_credentials.true w.named-is
      | else-has_credentials w ↦ w.named-is ∙ rw w.if-has_credentials.false
    ] in
    credentials_go k.has_credentials k.has_user _ b k.user.now k.password.now
    k.e.operation _ _ _ c.in-Connecting.is k.e k.packet.now k.headers.now k.reply.now
    _ c.is_long.ensures c.if-is_long.false _ c.connect_sends.ensures
