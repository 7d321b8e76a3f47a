-- The engine's window tells whether the password was right: a check that goes leaves its bit as the lowest one, along the coupling of engine and
-- journal. Assumes nothing.
use Prim.Native.Nat.{ℕ, ◌+◌, ◌*◌, ◌%◌, ◌^◌}
use mathlib.Core.Path.{◌≡◌, refl, sym, ap, ap₂, ◌∙◌, subst}
use mathlib.Core.Logic.{◌⊎◌, inl, inr}
use mathlib.Core.Bool.{Bool, true, false, ◌&&◌, false≢true}
use mathlib.Core.List.{List, ◌∷◌}
use mathlib.Core.Option.{Option}
use native.Mathlib.Omega.{arith}
use lib.Dec.{eqb}
use lib.ListN.{get_or}
use Rattle.base.specs.Pick.{pick}
use Rattle.journal.specs.Calls.{Call, password_given_of, Verdict, goes, refused, Fed, step_by_of}
use Rattle.journal.specs.Checks.{Check, right, wrong, bit, window_of}
use Rattle.journal.specs.Journal.{Journal, Standing, passes, password_checked, unchanged, stands, journal_fed, journal_step}
use Rattle.connection.specs.declared.peer.Peer.{Peer}
use Rattle.server.specs.declared.Settings.{Settings}
use Rattle.server.specs.declared.Await.{Await}
use Rattle.server.specs.declared.Await.TheVariants as await
use Rattle.server.specs.Numbers.{refusal_number}
use Rattle.server.specs.declared.Engine.{Engine}
use Rattle.server.specs.declared.Operation.{Operation}
use Rattle.server.specs.declared.Refusal.{Refusal}
use Rattle.server.specs.declared.Refusal.TheVariants as refusal
use Rattle.server.specs.declared.CallKind.TheVariants as kind
use Rattle.model.specs.Step.{Stores, Stepped, Called, after, engine_with}
use Rattle.model.specs.Guard.{refuse, short, sound, fits}
use Rattle.model.specs.Step.{limit_of}
use Rattle.model.specs.Calls.{password_given_step}
use Rattle.model.specs.Connect.{password_answer, password_answered}
use Rattle.model.specs.Refusals.{Known, verdict_of, fed_by}
use Rattle.model.specs.Runs.{State, Performed, called_in, Says, step_of}
use Rattle.model.proofs.Coupling.{Fixed, CoupledAt, Coupled}
use Rattle.model.proofs.Records.{Between, fed_to, performed-agrees, between_next}
use Rattle.reception.specs.Received.{last_right}

-- ---- numbers

low_bit : (w : ℕ) (b : Bool) → ((w * 2 + bit b) % 2 ^ 64) % 2 ≡ bit b
low_bit w true = omega arith
low_bit w false = omega arith

last-right : (h : List Check) (b : Bool) → last_right (window_of (pick b right wrong ∷ h)) ≡ b
unfolding last_right window_of
last-right h true = ap (λ (k : ℕ). eqb k 0) (low_bit (window_of h) false)
last-right h false = ap (λ (k : ℕ). eqb k 0) (low_bit (window_of h) true)

checks_are : (s : Standing) (b : Bool) → (password_checked s b).checks ≡ pick b right wrong ∷ s.checks
checks_are s true = refl
checks_are s false = refl

-- ---- where the engine stands after a password

-- the engine asks about the Connect, or for a nonce
abbrev Asking : Await → Type 0
Asking a = (a ≡ await.Connect) ⊎ (a ≡ await.Nonce)

-- what is to be shown of a step
abbrev Asks : Stepped → Type 0
Asks m = verdict_of m.took.outcome ≡ goes → Asking m.took.engine.awaits

refused-goes : (n : ℕ) → refused n ≡ goes → ⊥
refused-goes n e = let z : ◌≡◌ {A = ℕ} 0 1 = cc in omega arith

asks-pick : (t : Bool) (x y : Stepped) → Asks x → Asks y → Asks (pick t x y)
asks-pick true x y f g = f
asks-pick false x y f g = g

asks-refused : (r : Refusal) (e : Engine) (s : Stores) → Asks (refuse r e s)
asks-refused r e s g = absurd (refused-goes (refusal_number r) g)

asks-answered : (e : Engine) (t : Bool) (s : Stores) → Asks (after 0 (password_answered e t s))
unfolding password_answered engine_with
asks-answered e true s g = inl refl
asks-answered e false s g = inr refl

asking : (e : Engine) (p : Option (List ℕ)) (s : Stores) → Asks (password_given_step e p s)
unfolding password_given_step password_answer
asking e p s =
    asks-pick (short (limit_of e) s) (refuse refusal.StoreTooShort e s) _ (asks-refused refusal.StoreTooShort e s)
    (asks-pick (sound e && fits kind.PasswordGiven e.awaits) (after 0 (password_answer e p s)) (refuse refusal.WrongMoment e s)
    (asks-answered e _ s) (asks-refused refusal.WrongMoment e s))

-- ---- the word

fixed_of : (ts : List ℕ) (a : Await) (o : Operation) (st : Settings) (p : Peer) (b n : ℕ) (s : Stores) (j : Journal) → Asking a
    → CoupledAt ts a o st p b n s j → Fixed ts st p j
fixed_of ts a o st p b n s j (inl e) c = (subst (λ (x : Await). CoupledAt ts x o st p b n s j) e c).held.fixed
fixed_of ts a o st p b n s j (inr e) c = (subst (λ (x : Await). CoupledAt ts x o st p b n s j) e c).held.fixed

-- the step of the journal, ended or not
word_of : (ts : List ℕ) (st : Settings) (q : Peer) (j : Journal) (r : Option (List ℕ)) (t : Bool) → j.ended ≡ t
    → Fixed ts st q (pick t (unchanged j) (unchanged (stands j (password_checked j.standing (passes j r))))).next
    → last_right q.window ≡ passes j r
word_of ts st q j r true i f = absurd (false≢true (sym f.ended ∙ i))
word_of ts st q j r false i f =
    let past : f.past ≡ pick (passes j r) right wrong ∷ j.standing.checks =
    sym (ap (λ (x : Standing). x.checks) f.standing) ∙ checks_are j.standing (passes j r) in
    ap last_right (f.window ∙ ap window_of past) ∙ last-right j.standing.checks (passes j r)

module _ (st : Settings) (w : Known) (s : State) (j : Journal) (b : Between st w s j) (x : Performed)
    (says : Says s x.call (called_in x)) where
  pub password-word : (p : Option (List ℕ)) → x.call ≡ password_given_of p → verdict_of x.result.outcome ≡ goes
      → last_right x.result.engine.peer.window ≡ passes j p
  unfolding journal_step
  password-word p c g =
      let due = sym (performed-agrees st w s j b x says).due ∙ g in
      let is-fed : fed_to st w s j b x says ≡ step_by_of (password_given_of p) =
      ap₂ (λ (v : Verdict) (y : Call). fed_by v y (get_or s.stores.reply 0 0)) due c in
      let asks : Asking x.result.engine.awaits =
      subst (λ (m : Called). verdict_of m.took.outcome ≡ goes → Asking m.took.engine.awaits) (sym (says.step ∙ ap (step_of s) c))
      (asking s.engine p s.stores) g in
      let coupled = subst (λ (f : Fed). Coupled x.tables x.result.engine x.stores (journal_fed j f).next) is-fed
      (between_next st w s j b x says).coupled in
      word_of x.tables x.result.engine.settings x.result.engine.peer j p j.ended refl
      (fixed_of x.tables x.result.engine.awaits x.result.engine.operation x.result.engine.settings x.result.engine.peer
      x.result.engine.begun x.result.engine.length x.stores _ asks coupled)
