-- `engine::calls::nonce_given` meets its contract. The guard refuses as the model does, then a realm that is too long and a nonce that was
-- used; a nonce that is taken is remembered, and its challenge is sent by its plan. Assumes nothing.
use mathlib.Core.Path.{ap, ap₂, ◌∙◌}
use mathlib.Core.List.{List}
use mathlib.Core.Option.{Option}
use Prim.Native.Nat.{ℕ}
use Rattle.digest.specs.Md5.{octets16}
use Rattle.packet.specs.Header.{bytes_of}
use Rattle.connection.specs.Reply.{fields_of, send_bytes}
use Rattle.connection.specs.ConnectReply.{challenge_header}
use Rattle.connection.specs.declared.peer.Peer.{Peer}
use Rattle.model.specs.Step.{stores, Stepped, stepped, called, after, sends_connect, sent}
use Rattle.model.specs.Calls.{nonce_given_step}
use Rattle.model.specs.Connect.{nonce_answer, options_of, realm_of}
use Rattle.model.specs.Guard.{refuse, long_realm}
use Rattle.server.specs.declared.CallKind.TheVariants as kind
use Rattle.server.specs.declared.CallResult.{CallResult}
use Rattle.server.specs.declared.Refusal.{Refusal}
use Rattle.engine.proofs.Guards.{GoesLent, turned-lent, going-lent}
use Rattle.engine.proofs.Carried.{sent-stepped}
use Rattle.engine.proofs.Challenged.{nonce-refused, nonce-taken, realm-short}
use Rattle.engine.proofs.calls.nonce_given.Goals as goal

pub returns-in-Err : goal.returns-in-Err
unfolding nonce_given_step
returns-in-Err c =
    let k = c.args in
    let s = stores k.packet.now k.headers.now k.body.now k.reply.now in
    ap (λ (r : CallResult). called (stepped r s) k.tables.now) c.refuse.ensures
    ∙ turned-lent kind.NonceGiven k.e s k.tables.now (λ (q : Refusal). called (refuse q k.e s) k.tables.now) _ _ _
    c.guard_lent.ensures c.in-Err.is

pub is_used-used-requires : goal.is_used-used-requires
is_used-used-requires c =
    let k = c.args in
    let s = stores k.packet.now k.headers.now k.body.now k.reply.now in
    let g : GoesLent kind.NonceGiven k.e s k.tables.now = going-lent kind.NonceGiven _ _ _ _ c.guard_lent.ensures c.in_default.is in
    (g.goes.bounds.nonces, g.tables)

pub returns-in-Err-guard_nonce : goal.returns-in-Err-guard_nonce
unfolding long_realm
returns-in-Err-guard_nonce c =
    let k = c.args in
    let s = stores k.packet.now k.headers.now k.body.now k.reply.now in
    let g : GoesLent kind.NonceGiven k.e s k.tables.now = going-lent kind.NonceGiven _ _ _ _ c.guard_lent.ensures c.in_default.is in
    nonce-refused k.e k.nonce k.realm.now s k.tables.now g _ c.is_used-used.ensures _
    c.guard_nonce.ensures _ _ c.in-Err-guard_nonce.is c.refuse-in-Err-guard_nonce.ensures

pub remember-requires : goal.remember-requires
remember-requires c =
    let k = c.args in
    let s = stores k.packet.now k.headers.now k.body.now k.reply.now in
    let g : GoesLent kind.NonceGiven k.e s k.tables.now = going-lent kind.NonceGiven _ _ _ _ c.guard_lent.ensures c.in_default.is in
    g.tables

pub send_challenge-sent-requires : goal.send_challenge-sent-requires
unfolding long_realm
send_challenge-sent-requires c =
    let k = c.args in
    let s = stores k.packet.now k.headers.now k.body.now k.reply.now in
    let g : GoesLent kind.NonceGiven k.e s k.tables.now = going-lent kind.NonceGiven _ _ _ _ c.guard_lent.ensures c.in_default.is in
    (realm-short k.e k.nonce k.realm.now s k.tables.now g _ c.is_used-used.ensures _ c.guard_nonce.ensures c.in_default-guard_nonce.is, g.goes.room.reply)

pub returns : goal.returns
unfolding nonce_answer sends_connect long_realm
returns c =
    let k = c.args in
    let s = stores k.packet.now k.headers.now k.body.now k.reply.now in
    let g : GoesLent kind.NonceGiven k.e s k.tables.now = going-lent kind.NonceGiven _ _ _ _ c.guard_lent.ensures c.in_default.is in
    let header = bytes_of (challenge_header (octets16 k.nonce) (options_of k.e.settings) (realm_of k.e.settings k.realm.now)) in
    let bytes : Peer → Option (List ℕ)
    = λ p. send_bytes p.remote_max_packet_length 0x41 (fields_of k.e.settings.max_packet_length) header in
    let p = c.challenged-peer.result in
    ap₂ (λ (x : Stepped) (u : List ℕ). called x u)
    (sent-stepped k.e s p (bytes p) _ _ _ c.send_challenge-sent.ensures c.sent_plan.ensures c.took.ensures
    ∙ ap (λ (p : Peer). after 0 (sent k.e p (bytes p) s)) c.challenged-peer.ensures)
    c.remember.ensures
    ∙ nonce-taken k.e k.nonce k.realm.now s k.tables.now g _ c.is_used-used.ensures _ c.guard_nonce.ensures
    c.in_default-guard_nonce.is
