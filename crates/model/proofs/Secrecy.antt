-- A step depends on a password by the check alone: if the check comes out alike, the steps are equal, and so is all that follows.
-- Credentials that nobody asked for are refused whatever they are. Assumes nothing.
use mathlib.Core.Path.{◌≡◌, refl, sym, ap, ap₂, ◌∙◌, subst}
use mathlib.Core.List.{List, [], ◌∷◌}
use mathlib.Core.Bool.{Bool, true, false, and-false, true≢false}
use mathlib.Core.Option.{Option, some}
use Prim.Native.Nat.{ℕ}
use Rattle.base.specs.Pick.{pick}
use Rattle.journal.specs.Calls.{Call, password_given_of, credentials_given_of}
use Rattle.journal.specs.Journal.{Journal}
use Rattle.model.specs.Step.{Stores, Stepped, Called, called, after}
use Rattle.model.specs.Request.{client_response}
use Rattle.model.specs.Connect.{demands_user, checks, password_answered, password_answer}
use Rattle.model.specs.Guard.{sound, fits, guarded}
use Rattle.model.specs.Calls.{password_given_step, credentials_given_step}
use Rattle.model.specs.Runs.{State, Performed, keeps, step_of, state_of, called_in, next, writing, lent_to, Ran}
use Rattle.model.specs.Refusals.{Waits, bytes, taking, reply, object, acknowledgement, password as passwordWaits, nonce, credentials as credentialsWait, nothing, reading, asked, told, Known, at_start, learns}
use Rattle.model.specs.Theorem.{journal_of}
use Rattle.model.specs.ContractClaims.{state}
use Rattle.model.specs.Secrecy.{Alike, equal, password, credentials, AllAlike, check_made, ChecksAlike, for_credentials, asks_credentials, NoneAsked, Shown, shown_in, NoTrace, Secrecy, ContractsKeepSecrets}
use Rattle.server.specs.declared.Await.{Await}
use Rattle.server.specs.declared.Await.TheVariants as await
use Rattle.server.specs.declared.CallKind.{CallKind}
use Rattle.server.specs.declared.CallKind.TheVariants as kind
use Rattle.server.specs.declared.Engine.{Engine}
use Rattle.server.specs.declared.HostRequest.{HostRequest}
use Rattle.server.specs.declared.HostRequest.TheVariants as request
use Rattle.server.specs.declared.Outcome.{Outcome}
use Rattle.server.specs.declared.Outcome.TheVariants as outcome
use Rattle.server.specs.declared.Settings.{Settings}
use Rattle.model.proofs.Fit.{waits_of}
use Rattle.model.proofs.Moments.{same_await_lem}
use Rattle.model.proofs.Records.{Between, between_on, between_next, start_between}
use Rattle.model.proofs.Contracts.{accepted-started}

-- ---- a call

-- a call depends on what it would do only if it fits what is awaited
same-guarded : (k : CallKind) (e : Engine) (s : Stores) (g h : Stepped) → (fits k e.awaits ≡ true → g ≡ h) → guarded k e s g ≡ guarded k e s h
same-guarded k e s g h f = go (fits k e.awaits) refl
  where
    go : (t : Bool) → fits k e.awaits ≡ t → guarded k e s g ≡ guarded k e s h
    go true i = ap (guarded k e s) (f i)
    go false i = simp (i, and-false (sound e))

-- what waits is no credentials
abbrev apart : Waits → Bool
apart credentialsWait = false
apart bytes = true
apart taking = true
apart reply = true
apart object = true
apart acknowledgement = true
apart passwordWaits = true
apart nonce = true
apart nothing = true
apart (reading n) = true

asked-apart : (r : HostRequest) → for_credentials r ≡ false → apart (asked r) ≡ true
asked-apart (request.Credentials n u r p) e = absurd (true≢false e)
asked-apart (request.Connect n) e = refl
asked-apart (request.Disconnect n) e = refl
asked-apart (request.SetPath n u c) e = refl
asked-apart (request.Abort n) e = refl
asked-apart (request.Put k b) e = refl
asked-apart (request.Get k) e = refl
asked-apart (request.Action k) e = refl
asked-apart (request.Session k) e = refl
asked-apart (request.UserDefined o k) e = refl
asked-apart (request.Password u) e = refl
asked-apart request.Nonce e = refl
asked-apart (request.Read n) e = refl

told-apart : (w : Waits) (o : Outcome) → apart w ≡ true → asks_credentials o ≡ false → apart (told w o) ≡ true
told-apart w (outcome.Request r) a e = asked-apart r e
told-apart w outcome.WantsBytes a e = refl
told-apart w (outcome.Reply n) a e = refl
told-apart w (outcome.End n) a e = refl
told-apart w (outcome.Refused n) a e = a

module _ (w : Waits) (s : State) (k : w ≡ waits_of s.engine.awaits s.engine.operation) (a : apart w ≡ true) where
  -- the check that is made if a password is awaited
  check_of_lem : (p : Option (List ℕ)) → fits kind.PasswordGiven s.engine.awaits ≡ true
      → check_made (password_given_of p) s ≡ checks s.engine.peer.challenge (client_response s.engine s.stores)
      (demands_user s.engine.settings) p
  check_of_lem p i =
      ap (λ (t : Bool). pick t (checks s.engine.peer.challenge (client_response s.engine s.stores)
      (demands_user s.engine.settings) p) false) i

  same-password : (p q : Option (List ℕ)) → check_made (password_given_of p) s ≡ check_made (password_given_of q) s
      → step_of s (password_given_of p) ≡ step_of s (password_given_of q)
  unfolding password_given_step password_answer
  same-password p q c =
      ap (keeps s)
      (same-guarded kind.PasswordGiven s.engine s.stores _ _
      (λ i. ap (λ (t : Bool). after 0 (password_answered s.engine t s.stores)) (sym (check_of_lem p i) ∙ c ∙ check_of_lem q i)))

  same-credentials : (u : Option (List ℕ)) (p q : List ℕ)
      → step_of s (credentials_given_of (some (record { user = u; password = p })))
      ≡ step_of s (credentials_given_of (some (record { user = u; password = q })))
  unfolding credentials_given_step
  same-credentials u p q =
      ap (keeps s)
      (same-guarded kind.CredentialsGiven s.engine s.stores _ _
      (λ i. absurd (true≢false (sym a ∙ ap apart k
      ∙ ap (λ (x : Await). apart (waits_of x s.engine.operation)) (same_await_lem s.engine.awaits await.Credentials i)))))

  same_step : (c d : Call) → Alike c d → check_made c s ≡ check_made d s → step_of s c ≡ step_of s d
  same_step c d (equal x) e = refl
  same_step c d (password p q) e = same-password p q e
  same_step c d (credentials u p q) e = same-credentials u p q

-- ---- two runs

run-alike : (st : Settings) (xs ys : List Performed) (w : Known) (s : State) (j : Journal) → Between st w s j → apart w.waits ≡ true → Ran s xs
    → Ran s ys
    → AllAlike xs ys → ChecksAlike s s xs ys → NoneAsked xs → NoTrace xs ys
run-alike st [] [] w s j b a r q l c n = record { shown = refl; left = refl }
run-alike st [] (y ∷ ys) w s j b a r q l c n = absurd l
run-alike st (x ∷ xs) [] w s j b a r q l c n = absurd l
run-alike st (x ∷ xs) (y ∷ ys) w s j b a r q l c n =
    let v = lent_to s x in
    let also : lent_to s y ≡ v = ap (writing s) (sym l.1.0) in
    let d = between_on st w s j x.written r.0 b in
    let e : called_in x ≡ called_in y =
    r.1.0.step
    ∙ same_step w.waits v d.knows.waits a x.call y.call l.0 (c.0 ∙ ap (check_made y.call) also)
    ∙ sym (q.1.0.step ∙ ap (λ (t : State). step_of t y.call) also) in
    let back : next y ≡ next x = ap state_of (sym e) in
    let later = run-alike st xs ys (learns w x.call x.result.outcome) (next x) _ (between_next st w v j d x r.1.0)
    (told-apart w.waits x.result.outcome a n.0) r.1.1 (subst (λ (t : State). Ran t ys) back q.1.1) l.1.1
    (subst (λ (t : State). ChecksAlike (next x) t xs ys) back c.1) n.1 in
    record {
      shown = ap₂ (λ (m : Called) (ms : List Shown). shown_in m ∷ ms) e later.shown;
      left = ap₂ (λ (m : Called) (ms : List Called). m ∷ ms) e later.left;
    }

-- passwords leave no trace
pub secrecy : Secrecy
secrecy st s h xs ys r q l c n = run-alike st xs ys (at_start st) s (journal_of st) (start_between st s h) refl r q l c n

-- two starts with equal arguments leave the same
pub contracts_keep_secrets : ContractsKeepSecrets
contracts_keep_secrets st l s t v u r q xs ys a b ran also alike c n =
    let same : state q v u ≡ state r t u = ap (λ (m : Stepped). state_of (called m u)) (b.says ∙ sym a.says) in
    secrecy st (state r t u) (accepted-started st l s t u r a) xs ys ran (subst (λ (x : State). Ran x ys) same also) alike
    (subst (λ (x : State). ChecksAlike (state r t u) x xs ys) same c) n
