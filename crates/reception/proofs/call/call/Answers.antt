-- `reception::call::call` meets its contract: each arm makes the call of its decision, and a call that is not lent the tables leaves them. Assumes
-- nothing.
use mathlib.Core.Bool.{Bool, true}
use mathlib.Core.List.{List}
use mathlib.Core.Path.{◌≡◌, sym, ap, subst, ◌∙◌}
use Prim.Native.Nat.{ℕ}
use Rattle.packet.specs.AuthWrite.{given}
use Rattle.model.specs.Step.{Stepped, Called, called, stores}
use Rattle.model.specs.Calls.{object_given_step, password_given_step}
use Rattle.model.specs.Runs.{State, Says}
use Rattle.reception.specs.Answers.{call_of, lending}
use Rattle.reception.specs.declared.answer.Answer.{Answer}
use Rattle.reception.specs.declared.answer.Answer.TheVariants as answer
use Rattle.reception.proofs.call.call.Goals as goal

-- the decision is `x`, and its call was made
made : (v x : Answer) (z : List ℕ) (s : State) (m : Called) → v ≡ x → Says s (call_of x z) m → Says s (call_of v z) m
made v x z s m e h = subst (λ (y : Answer). Says s (call_of y z) m) (sym e) h

pub returns-in-Offer : goal.returns-in-Offer
returns-in-Offer c =
    let k = c.args in
    let b = stores k.packet.now k.headers.now k.body.now k.reply.now in
    let s = lending k.e b k.tables.now in
    made k.answer answer.Offer k.lent.now s _ c.in-Offer.is
    (record { step = ap (λ (m : Stepped). called m k.tables.now) c.bytes_offered.ensures.step; octets = c.bytes_offered.ensures.octets })

pub returns-in-End : goal.returns-in-End
returns-in-End c =
    let k = c.args in
    let b = stores k.packet.now k.headers.now k.body.now k.reply.now in
    let s = lending k.e b k.tables.now in
    made k.answer answer.End k.lent.now s _ c.in-End.is
    (record { step = ap (λ (m : Stepped). called m k.tables.now) c.stream_ended.ensures; octets = tt })

pub returns-in-Sent : goal.returns-in-Sent
returns-in-Sent c =
    let k = c.args in
    let b = stores k.packet.now k.headers.now k.body.now k.reply.now in
    let s = lending k.e b k.tables.now in
    made k.answer answer.Sent k.lent.now s _ c.in-Sent.is
    (record { step = ap (λ (m : Stepped). called m k.tables.now) c.reply_taken.ensures; octets = tt })

pub returns-in-Reply : goal.returns-in-Reply
returns-in-Reply c =
    let k = c.args in
    let b = stores k.packet.now k.headers.now k.body.now k.reply.now in
    let s = lending k.e b k.tables.now in
    made k.answer (answer.Reply _) k.lent.now s _ c.in-Reply.is
    (record { step = c.reply_given.ensures; octets = tt })

pub returns-in-Object : goal.returns-in-Object
returns-in-Object c =
    let k = c.args in
    let b = stores k.packet.now k.headers.now k.body.now k.reply.now in
    let s = lending k.e b k.tables.now in
    let header = ap (λ (l : List ℕ). object_given_step k.e l true b) c.length_header.ensures in
    made k.answer (answer.Object _) k.lent.now s _ c.in-Object.is
    (record { step = ap (λ (m : Stepped). called m k.tables.now) (c.object_given.ensures ∙ header); octets = tt })

pub returns-in-Body : goal.returns-in-Body
returns-in-Body c =
    let k = c.args in
    let b = stores k.packet.now k.headers.now k.body.now k.reply.now in
    let s = lending k.e b k.tables.now in
    made k.answer answer.Body k.lent.now s _ c.in-Body.is
    (record { step = ap (λ (m : Stepped). called m k.tables.now) c.body_given.ensures; octets = tt })

pub returns-in-BodyFailed : goal.returns-in-BodyFailed
returns-in-BodyFailed c =
    let k = c.args in
    let b = stores k.packet.now k.headers.now k.body.now k.reply.now in
    let s = lending k.e b k.tables.now in
    made k.answer answer.BodyFailed k.lent.now s _ c.in-BodyFailed.is
    (record { step = ap (λ (m : Stepped). called m k.tables.now) c.body_failed.ensures; octets = tt })

pub returns-in-Acknowledge : goal.returns-in-Acknowledge
returns-in-Acknowledge c =
    let k = c.args in
    let b = stores k.packet.now k.headers.now k.body.now k.reply.now in
    let s = lending k.e b k.tables.now in
    made k.answer answer.Acknowledge k.lent.now s _ c.in-Acknowledge.is
    (record { step = ap (λ (m : Stepped). called m k.tables.now) c.abort_acknowledged.ensures; octets = tt })

pub returns-in-Password : goal.returns-in-Password
returns-in-Password c =
    let k = c.args in
    let b = stores k.packet.now k.headers.now k.body.now k.reply.now in
    let s = lending k.e b k.tables.now in
    let known = ap (λ (h : Bool). password_given_step k.e (given h k.lent.now) b) c.is_password_known.ensures in
    made k.answer (answer.Password _) k.lent.now s _ c.in-Password.is
    (record { step = ap (λ (m : Stepped). called m k.tables.now) (c.password_given.ensures ∙ known); octets = tt })

pub returns-in-Nonce : goal.returns-in-Nonce
returns-in-Nonce c =
    let k = c.args in
    let b = stores k.packet.now k.headers.now k.body.now k.reply.now in
    let s = lending k.e b k.tables.now in
    made k.answer (answer.Nonce _) k.lent.now s _ c.in-Nonce.is
    (record { step = c.nonce_given.ensures; octets = tt })

pub returns-in-Credentials : goal.returns-in-Credentials
returns-in-Credentials c =
    let k = c.args in
    let b = stores k.packet.now k.headers.now k.body.now k.reply.now in
    let s = lending k.e b k.tables.now in
    made k.answer (answer.Credentials _) k.lent.now s _ c.in-Credentials.is
    (record { step = ap (λ (m : Stepped). called m k.tables.now) c.give_credentials.ensures; octets = tt })

pub returns-in-NoCredentials : goal.returns-in-NoCredentials
returns-in-NoCredentials c =
    let k = c.args in
    let b = stores k.packet.now k.headers.now k.body.now k.reply.now in
    let s = lending k.e b k.tables.now in
    made k.answer answer.NoCredentials k.lent.now s _ c.in-NoCredentials.is
    (record { step = ap (λ (m : Stepped). called m k.tables.now) c.credentials_given.ensures; octets = tt })
