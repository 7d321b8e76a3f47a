-- `host::answers::answer` meets its contract. Each arm makes the call of its kind, and the kind is the one that is due. A call that is not lent the
-- tables leaves them. Of a nonce it is said that it is some sixteen bytes. Assumes nothing.
use mathlib.Core.Bool.{true, false}
use mathlib.Core.List.{List}
use mathlib.Core.Path.{◌≡◌, sym, ap, subst, ◌∙◌}
use Prim.Native.Nat.{ℕ}
use Rattle.model.specs.Step.{Stores, Stepped, Called, called, stores}
use Rattle.server.specs.declared.Engine.{Engine}
use Rattle.server.specs.declared.HostRequest.{HostRequest}
use Rattle.host.specs.Answers.{kind_for, Answers}
use Rattle.host.specs.declared.answers.Kind.{Kind}
use Rattle.host.specs.declared.answers.Kind.TheVariants as kind
use Rattle.host.proofs.answers.answer.Goals as goal

-- The kind `k` is that of the request, and an arm `x` answers as its own kind does.
due : (q : HostRequest) (e : Engine) (s : Stores) (t : List ℕ) (k x : Kind) (m : Called) → k ≡ kind_for q → k ≡ x → Answers x e s t m
    → Answers (kind_for q) e s t m
due q e s t k x m h i w = subst (λ (y : Kind). Answers y e s t m) (sym i ∙ h) w

pub returns-in-Reply : goal.returns-in-Reply
returns-in-Reply g c =
    let x = c.args in
    due x.request x.e (stores x.packet.now x.headers.now x.body.now x.reply.now) x.tables.now c.kind_of.result (kind.Reply _) _
    c.kind_of.ensures c.in-Reply.is c.reply_given.ensures

pub returns-in-Acknowledge : goal.returns-in-Acknowledge
returns-in-Acknowledge g c =
    let x = c.args in
    due x.request x.e (stores x.packet.now x.headers.now x.body.now x.reply.now) x.tables.now c.kind_of.result kind.Acknowledge _
    c.kind_of.ensures c.in-Acknowledge.is (ap (λ (m : Stepped). called m x.tables.now) c.abort_acknowledged.ensures)

pub returns-in-NoPassword : goal.returns-in-NoPassword
returns-in-NoPassword g c =
    let x = c.args in
    due x.request x.e (stores x.packet.now x.headers.now x.body.now x.reply.now) x.tables.now c.kind_of.result kind.NoPassword _
    c.kind_of.ensures c.in-NoPassword.is (ap (λ (m : Stepped). called m x.tables.now) c.password_given.ensures)

pub returns-in-NoCredentials : goal.returns-in-NoCredentials
returns-in-NoCredentials g c =
    let x = c.args in
    due x.request x.e (stores x.packet.now x.headers.now x.body.now x.reply.now) x.tables.now c.kind_of.result kind.NoCredentials _
    c.kind_of.ensures c.in-NoCredentials.is (ap (λ (m : Stepped). called m x.tables.now) c.credentials_given.ensures)

pub returns-in-Some : goal.returns-in-Some
returns-in-Some g c =
    let x = c.args in
    due x.request x.e (stores x.packet.now x.headers.now x.body.now x.reply.now) x.tables.now c.kind_of.result kind.Nonce _
    c.kind_of.ensures c.in-Nonce.is (_, (true, c.nonce_given.ensures))

pub returns-in-None : goal.returns-in-None
returns-in-None g c =
    let x = c.args in
    due x.request x.e (stores x.packet.now x.headers.now x.body.now x.reply.now) x.tables.now c.kind_of.result kind.Nonce _
    c.kind_of.ensures c.in-Nonce.is
    (record { first = 0; second = 0 }, (false, ap (λ (m : Stepped). called m x.tables.now) c.body_failed.ensures))

pub returns-in-NoBody : goal.returns-in-NoBody
returns-in-NoBody g c =
    let x = c.args in
    due x.request x.e (stores x.packet.now x.headers.now x.body.now x.reply.now) x.tables.now c.kind_of.result kind.NoBody _
    c.kind_of.ensures c.in-NoBody.is (ap (λ (m : Stepped). called m x.tables.now) c.body_failed-in-NoBody.ensures)
