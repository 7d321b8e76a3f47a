-- What is decided on a request: the code of a Put is that of what became of its record, since a filing comes out as its plan does by what the
-- steps answered. Assumes nothing.
use Rattle.std.proofs.Common.{◌≡◌, Bool, true, false, [], ◌∷◌, ℤ, sym, refl, ap, ◌∙◌, subst}
use denote.Enum.Declared.{tag_of}
use types.Run.{OneOf, miss}
use Rattle.filing.specs.Plan.{plan_for, runs, code_for}
use Rattle.filing.specs.declared.plan.Filing.{Filing}
use Rattle.filing.specs.declared.plan.Step.{Step}
use Rattle.server.specs.declared.HostRequest.{HostRequest}
use Rattle.server.specs.declared.HostRequest.TheVariants as request
use Rattle.server.specs.contracts.HostRequest.{the_type}
use Rattle.reception.specs.Answers.{after_filing}
use Rattle.reception.specs.Received.{told_by}
use Rattle.reception.specs.declared.answer.Answer.TheVariants as answer
use Rattle.reception.specs.declared.answer.Decision.{Decision}
use Rattle.receiver.specs.Filing.{is_filed, Carried, not_begun, filing_of, course_of, DecidesOn}
use Rattle.receiver.specs.declared.record.Outcome.{Outcome}
use Rattle.receiver.specs.declared.record.Tried.{Tried}

-- no step is a plan that is not filed
not-filed : (b : Bool) → false ≡ (runs (plan_for b) []).filed
unfolding runs
not-filed true = refl
not-filed false = refl

pub none-carried : (b : Bool) (s : Step) (e : ℤ) (o : Outcome) → o ≡ not_begun s e → is_filed s ≡ false → Carried b o
none-carried b s e o p h = subst (Carried b) (sym p) (record { filed = h ∙ not-filed b; last = refl; full = refl })

-- the answer to a Put
pub told_so : (b taken : Bool) (o : Outcome) (f : Filing) → f ≡ filing_of o → Carried b o
    → after_filing taken f.filed f.full ≡ answer.Reply (told_by b (course_of (record { taken = taken; outcome = o })))
told_so b true o f e h =
    ap (λ (g : Filing). answer.Reply (code_for g.filed g.full)) e ∙ ap (λ (x : Bool). answer.Reply (code_for x o.full)) h.filed
told_so b false o f e h = refl

-- ---- requests

-- the request is `p`
pub on_request : (q p : HostRequest) (t : Tried) (d : Decision) → q ≡ p → DecidesOn p t d → DecidesOn q t d
on_request q p t d e h = subst (λ (r : HostRequest). DecidesOn r t d) (sym e) h

-- the request is no Put
pub on_plain : (q : HostRequest) (t : Tried) (d : Decision) → OneOf (0 ∷ 1 ∷ 2 ∷ 3 ∷ 6 ∷ 7 ∷ 8 ∷ []) (tag_of the_type q) → DecidesOn q t d
on_plain (request.Put n b) t d k = absurd (miss (0 ∷ 1 ∷ 2 ∷ 3 ∷ 6 ∷ 7 ∷ 8 ∷ []) 4 tt k)
on_plain (request.Connect n) t d k = tt
on_plain (request.Disconnect n) t d k = tt
on_plain (request.SetPath n u c) t d k = tt
on_plain (request.Abort n) t d k = tt
on_plain (request.Get n) t d k = tt
on_plain (request.Action n) t d k = tt
on_plain (request.Session n) t d k = tt
on_plain (request.UserDefined o n) t d k = tt
on_plain (request.Password u) t d k = tt
on_plain request.Nonce t d k = tt
on_plain (request.Credentials n u r p) t d k = tt
on_plain (request.Read n) t d k = tt
