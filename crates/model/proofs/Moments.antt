-- A call goes on if its kind fits what is awaited, and that is exactly if the call is one that is waited for. What remains of a call is
-- then one step, or a refusal.
-- Assumes nothing.
use mathlib.Core.Path.{◌≡◌, refl, sym, ap, ap₂, ◌∙◌, subst}
use mathlib.Core.List.{List}
use mathlib.Core.Bool.{Bool, true, false, ◌&&◌, ◌||◌, not, and-false, true≢false}
use Prim.Native.Nat.{ℕ, ◌≤◌}
use native.Mathlib.Omega.{arith}
use lib.ListN.{length, get_or, take}
use lib.Dec.{leb, eqb}
use borrow.Author.Tests.{eqb-true}
use Rattle.base.specs.Pick.{pick}
use Rattle.journal.specs.Calls.{Call, bytes_offered_of, stream_ended_of, reply_taken_of, reply_given_of, object_given_of, body_given_of, body_failed_of, abort_acknowledged_of, password_given_of, nonce_given_of, credentials_given_of, connections_closed_of, Verdict, goes, refused, Fed, step_by_of}
use Rattle.journal.specs.Journal.{Journal, unchanged, journal_call, journal_fed, fed_takes, fed_reads}
use Rattle.table.specs.Nonces.{remembered}
use Rattle.incoming.specs.Frame.{framed}
use Rattle.model.specs.Step.{Stepped, Called, called, Done, done, after, ends, replies_code, limit_of}
use Rattle.model.specs.Guard.{refuse, short, sound, short_tables, same_await, fits}
use Rattle.model.specs.Calls.{offers, bytes_offered_step, stream_ended_step, reply_taken_step, reply_checked, reply_given_step, object_for, object_given_step, body_for, body_given_step, body_failed_step, abort_acknowledged_step, password_given_step, nonce_checked, nonce_given_step, credentials_with, credentials_given_step, connections_closed_step}
use Rattle.model.specs.Dispatch.{busy}
use Rattle.model.specs.Close.{refuse_closing, close_checked}
use Rattle.model.specs.Object.{goes_on_of}
use Rattle.model.specs.Connect.{password_answer}
use Rattle.model.specs.Runs.{State, keeps, beside, step_of, state_of, lacks}
use Rattle.model.specs.Refusals.{Waits, room_in, Known, noted, learns, allowed, judged, expected, verdict, verdict_of, fed_call, fed_by}
use Rattle.model.specs.Replies.{Late, late_after, reply_size}
use Rattle.journal.specs.Srm.{Mode, due_in, mode_after}
use Rattle.model.specs.Theorem.{Kept}
use Rattle.server.specs.Numbers.{refusal_number, await_number, await_of}
use Rattle.server.specs.declared.CallKind.{CallKind}
use Rattle.server.specs.declared.CallKind.TheVariants as kind
use Rattle.server.specs.declared.End.TheVariants as end
use Rattle.server.specs.declared.Refusal.{Refusal}
use Rattle.server.specs.declared.Refusal.TheVariants as refusal
use Rattle.server.specs.declared.Operation.{Operation}
use Rattle.server.specs.declared.Operation.TheVariants.{Nothing}
use Rattle.server.specs.declared.Await.{Await}
use Rattle.server.specs.declared.Await.TheVariants as await
use Rattle.model.proofs.Fit.{not_short, waits_of, Seated, tables-long, is_sound, FineWith, Fine}
use Rattle.model.proofs.Coupling.{Coupled, Follows, told-follows}
use Rattle.model.proofs.Sizes.{Brief, LateAt, Sized, brief_sized}
use Rattle.model.proofs.Speaks.{ModeAt, Spoken}

-- ---- moments

-- the kind of a call
abbrev pub kind_of : Call → CallKind
kind_of (bytes_offered_of i) = kind.FromPeer
kind_of stream_ended_of = kind.FromPeer
kind_of reply_taken_of = kind.ReplyTaken
kind_of (reply_given_of code hs) = kind.ReplyGiven
kind_of (object_given_of hs b) = kind.ObjectGiven
kind_of (body_given_of d) = kind.FromBody
kind_of body_failed_of = kind.FromBody
kind_of abort_acknowledged_of = kind.AbortAcknowledged
kind_of (password_given_of p) = kind.PasswordGiven
kind_of (nonce_given_of n l) = kind.NonceGiven
kind_of (credentials_given_of c) = kind.CredentialsGiven
kind_of (connections_closed_of l) = kind.FromPeer

-- body bytes must also be no more than were asked for
abbrev pub fitting : Call → Waits → Bool
fitting (body_given_of d) w = leb (length d) (room_in w)
fitting (bytes_offered_of i) w = true
fitting stream_ended_of w = true
fitting reply_taken_of w = true
fitting (reply_given_of code hs) w = true
fitting (object_given_of hs b) w = true
fitting body_failed_of w = true
fitting abort_acknowledged_of w = true
fitting (password_given_of p) w = true
fitting (nonce_given_of n l) w = true
fitting (credentials_given_of c) w = true
fitting (connections_closed_of l) w = true

-- whatever is awaited
each : (P : Await → Type 0) → P await.Bytes → P await.Taken → P await.Last → P await.Connect → P await.Disconnect → P await.Get → P await.Reply
    → P await.Acknowledgement → P await.Password → P await.Nonce → P await.Credentials → P await.Body → P await.Nothing → (a : Await) → P a
each P b t l c d g r k p n e y z await.Bytes = b
each P b t l c d g r k p n e y z await.Taken = t
each P b t l c d g r k p n e y z await.Last = l
each P b t l c d g r k p n e y z await.Connect = c
each P b t l c d g r k p n e y z await.Disconnect = d
each P b t l c d g r k p n e y z await.Get = g
each P b t l c d g r k p n e y z await.Reply = r
each P b t l c d g r k p n e y z await.Acknowledgement = k
each P b t l c d g r k p n e y z await.Password = p
each P b t l c d g r k p n e y z await.Nonce = n
each P b t l c d g r k p n e y z await.Credentials = e
each P b t l c d g r k p n e y z await.Body = y
each P b t l c d g r k p n e y z await.Nothing = z

abbrev Moment : Call → Operation → Await → Type 0
Moment c o a = expected c (waits_of a o) ≡ (fits (kind_of c) a && fitting c (waits_of a o))

moment : (c : Call) (o : Operation) (a : Await) → Moment c o a
unfolding expected
moment (bytes_offered_of i) o a = each (Moment (bytes_offered_of i) o) refl refl refl refl refl refl refl refl refl refl refl refl refl a
moment stream_ended_of o a = each (Moment stream_ended_of o) refl refl refl refl refl refl refl refl refl refl refl refl refl a
moment reply_taken_of o a = each (Moment reply_taken_of o) refl refl refl refl refl refl refl refl refl refl refl refl refl a
moment (reply_given_of code hs) o a = each (Moment (reply_given_of code hs) o) refl refl refl refl refl refl refl refl refl refl refl refl refl a
moment (object_given_of hs b) o a = each (Moment (object_given_of hs b) o) refl refl refl refl refl refl refl refl refl refl refl refl refl a
moment (body_given_of d) o a = each (Moment (body_given_of d) o) refl refl refl refl refl refl refl refl refl refl refl refl refl a
moment body_failed_of o a = each (Moment body_failed_of o) refl refl refl refl refl refl refl refl refl refl refl refl refl a
moment abort_acknowledged_of o a = each (Moment abort_acknowledged_of o) refl refl refl refl refl refl refl refl refl refl refl refl refl a
moment (password_given_of p) o a = each (Moment (password_given_of p) o) refl refl refl refl refl refl refl refl refl refl refl refl refl a
moment (nonce_given_of n l) o a = each (Moment (nonce_given_of n l) o) refl refl refl refl refl refl refl refl refl refl refl refl refl a
moment (connections_closed_of l) o a = each (Moment (connections_closed_of l) o) refl refl refl refl refl refl refl refl refl refl refl refl refl a
moment (credentials_given_of c) o a = each (Moment (credentials_given_of c) o) refl refl refl refl refl refl refl refl refl refl refl refl refl a

-- what is awaited is told by its number
pub await_back : (x : Await) → await_of (await_number x) ≡ x
unfolding await_of
await_back x = each (λ (y : Await). await_of (await_number y) ≡ y) refl refl refl refl refl refl refl refl refl refl refl refl refl x

pub same_await_lem : (a b : Await) → same_await a b ≡ true → a ≡ b
same_await_lem a b h = let n : await_number a ≡ await_number b = eqb-true _ _ h in sym (await_back a) ∙ ap await_of n ∙ await_back b

-- where one of two tests holds and the first fails, the second holds
pub or_second : (a b : Bool) → (a || b) ≡ true → a ≡ false → b ≡ true
or_second true b h k = absurd (true≢false k)
or_second false b h k = h

-- ---- a call at its moment

-- what a call that leaves the table store does at its moment; a reply and a nonce may write it and stand below
abbrev pub go_step : State → Call → Stepped
go_step s (bytes_offered_of i) = offers s.engine (framed s.stores.packet s.engine.begun 0 i) s.stores s.tables
go_step s stream_ended_of = after 0 (ends s.engine s.engine.peer (pick (eqb s.engine.begun 0) end.Disconnected end.Truncated) s.stores)
go_step s reply_taken_of =
    after 0 (pick (same_await s.engine.awaits await.Taken) (goes_on_of s.engine.operation s.engine s.stores)
    (ends s.engine s.engine.peer end.OtherOperation s.stores))
go_step s (reply_given_of code hs) = refuse refusal.WrongMoment s.engine s.stores
go_step s (object_given_of hs b) = object_for s.engine.operation s.engine hs b s.stores
go_step s (body_given_of d) = body_for s.engine.operation s.engine d s.stores
go_step s body_failed_of = after 0 (replies_code s.engine s.engine.peer Nothing 0x50 s.stores)
go_step s abort_acknowledged_of = after 0 (replies_code s.engine s.engine.peer Nothing 0x20 s.stores)
go_step s (password_given_of p) = after 0 (password_answer s.engine p s.stores)
go_step s (nonce_given_of n l) = refuse refusal.WrongMoment s.engine s.stores
go_step s (credentials_given_of c) = credentials_with s.engine.operation s.engine c s.stores
go_step s (connections_closed_of l) = refuse refusal.WrongMoment s.engine s.stores

abbrev pub go_for : State → Call → Called
go_for s (reply_given_of code hs) = reply_checked s.engine code hs s.stores s.tables
go_for s (nonce_given_of n l) = nonce_checked s.engine n l s.stores s.tables
go_for s (bytes_offered_of i) = keeps s (go_step s (bytes_offered_of i))
go_for s stream_ended_of = keeps s (go_step s stream_ended_of)
go_for s reply_taken_of = keeps s (go_step s reply_taken_of)
go_for s (object_given_of hs b) = keeps s (go_step s (object_given_of hs b))
go_for s (body_given_of d) = keeps s (go_step s (body_given_of d))
go_for s body_failed_of = keeps s (go_step s body_failed_of)
go_for s abort_acknowledged_of = keeps s (go_step s abort_acknowledged_of)
go_for s (password_given_of p) = keeps s (go_step s (password_given_of p))
go_for s (credentials_given_of c) = keeps s (go_step s (credentials_given_of c))
go_for s (connections_closed_of l) =
    pick (not (busy s.engine.operation)) (beside s (close_checked s.engine l s.tables))
    (keeps s (refuse refusal.WrongMoment s.engine s.stores))

abbrev pub refuses : Refusal → State → Called
refuses r s = keeps s (refuse r s.engine s.stores)

-- the guard, with the table store beside what it lets through
kept : (s : State) (c : Call) (x y : Bool)
    → keeps s (pick x (refuse refusal.StoreTooShort s.engine s.stores)
    (pick y (go_step s c) (refuse refusal.WrongMoment s.engine s.stores)))
    ≡ pick x (refuses refusal.StoreTooShort s) (pick y (keeps s (go_step s c)) (refuses refusal.WrongMoment s))
kept s c true y = refl
kept s c false true = refl
kept s c false false = refl

-- what a call is lent is too short, by the engine's own settings
abbrev pub lacks_in : State → Call → Bool
lacks_in s c = lacks s.engine.settings c s.stores s.tables

abbrev pub verdict_at : Known → State → Journal → Call → Verdict
verdict_at w s j c = verdict (lacks_in s c) w j c

abbrev pub at_moment : State → Call → Bool
at_moment s c = sound s.engine && fits (kind_of c) s.engine.awaits

-- the guard of the call that closes connections, which asks for the operation too
closing_is : (s : State) (l : List ℕ) (x y z t : Bool)
    → beside s (pick x (refuse_closing refusal.StoreTooShort s.engine s.tables)
    (pick (y && (z && t)) (close_checked s.engine l s.tables) (refuse_closing refusal.WrongMoment s.engine s.tables)))
    ≡ pick x (refuses refusal.StoreTooShort s)
    (pick (y && z) (pick t (beside s (close_checked s.engine l s.tables)) (refuses refusal.WrongMoment s)) (refuses refusal.WrongMoment s))
closing_is s l true y z t = refl
closing_is s l false true true true = refl
closing_is s l false true true false = refl
closing_is s l false true false t = refl
closing_is s l false false z t = refl

pub step_is : (s : State) (c : Call)
    → step_of s c ≡ pick (lacks_in s c) (refuses refusal.StoreTooShort s) (pick (at_moment s c) (go_for s c) (refuses refusal.WrongMoment s))
unfolding bytes_offered_step stream_ended_step reply_taken_step reply_given_step object_given_step body_given_step body_failed_step
    abort_acknowledged_step password_given_step nonce_given_step credentials_given_step connections_closed_step
step_is s (bytes_offered_of i) = kept s (bytes_offered_of i) (lacks_in s (bytes_offered_of i)) (at_moment s (bytes_offered_of i))
step_is s stream_ended_of = kept s stream_ended_of (lacks_in s stream_ended_of) (at_moment s stream_ended_of)
step_is s reply_taken_of = kept s reply_taken_of (lacks_in s reply_taken_of) (at_moment s reply_taken_of)
step_is s (reply_given_of code hs) = refl
step_is s (object_given_of hs b) = kept s (object_given_of hs b) (lacks_in s (object_given_of hs b)) (at_moment s (object_given_of hs b))
step_is s (body_given_of d) = kept s (body_given_of d) (lacks_in s (body_given_of d)) (at_moment s (body_given_of d))
step_is s body_failed_of = kept s body_failed_of (lacks_in s body_failed_of) (at_moment s body_failed_of)
step_is s abort_acknowledged_of = kept s abort_acknowledged_of (lacks_in s abort_acknowledged_of) (at_moment s abort_acknowledged_of)
step_is s (password_given_of p) = kept s (password_given_of p) (lacks_in s (password_given_of p)) (at_moment s (password_given_of p))
step_is s (nonce_given_of n l) = refl
step_is s (connections_closed_of l) =
    closing_is s l (short_tables s.tables) (sound s.engine) (same_await s.engine.awaits await.Bytes) (not (busy s.engine.operation))
step_is s (credentials_given_of c) = kept s (credentials_given_of c) (lacks_in s (credentials_given_of c)) (at_moment s (credentials_given_of c))

-- ---- a call's result agrees with the verdict that is due and with the journal's entry

abbrev pub done_of : Called → Done
done_of m = done m.took.engine m.took.outcome m.stores

-- what the journal is fed of it
abbrev pub fed_at : State → Verdict → Call → Fed
fed_at s v c = fed_by v c (get_or s.stores.reply 0 0)

abbrev pub fed_going : State → Call → Fed
fed_going s c = fed_call c (get_or s.stores.reply 0 0)

-- what is known from the calls is what the engine was set to and waits for, and the nonces that it remembers
pub record Knows (k : Known) (s : State) : Type 0 where
  pub settings : k.settings ≡ s.engine.settings
  pub waits : k.waits ≡ waits_of s.engine.awaits s.engine.operation
  pub nonces : remembered s.engine.peer.nonces s.tables ≡ take 32 k.nonces

pub record Agree (w : Known) (s : State) (c : Call) (v : Verdict) (m : Called) : Type 0 where
  pub due : verdict_of m.took.outcome ≡ v
  pub settings : m.took.engine.settings ≡ s.engine.settings
  pub seated : Seated (state_of m)
  pub knows : Knows (learns w c m.took.outcome) (state_of m)
  pub unmoved : (n : ℕ) → v ≡ refused n → state_of m ≡ s
  pub count : (j : Journal) → Coupled s.tables s.engine s.stores j → m.took.taken ≡ fed_takes j (fed_at s v c)
  pub journal : (j : Journal) → Coupled s.tables s.engine s.stores j
      → Follows (Kept (fed_reads j (fed_at s v c))) m.tables (done_of m) (journal_fed j (fed_at s v c))
  pub sized : (j : Journal) (late : Late) → Coupled s.tables s.engine s.stores j → LateAt s.engine s.stores late
      → reply_size late j (fed_at s v c) ≤ 65535 → Sized (done_of m) (late_after late j (fed_at s v c))
  pub spoken : (j : Journal) (o : Mode) → Coupled s.tables s.engine s.stores j → ModeAt s.engine.operation o
      → Kept (fed_reads j (fed_at s v c))
      → Spoken (done_of m) (due_in o j (fed_at s v c)) (mode_after o j (fed_at s v c))

-- the same of a call that leaves the table store
abbrev pub AgreeKept : Known → State → Call → Verdict → Stepped → Type 0
AgreeKept w s c v m = Agree w s c v (keeps s m)

-- the verdict may depend on the journal, which stands to the engine as `Coupled` says
abbrev pub Agrees : Known → State → Call → Type 0
Agrees w s c = (j : Journal) → Coupled s.tables s.engine s.stores j → Agree w s c (verdict_at w s j c) (step_of s c)

-- the journal's step where the call goes
pub fed-goes : (j : Journal) (c : Call) → j.ended ≡ false → journal_fed j (step_by_of c) ≡ journal_call j c
fed-goes j c e = ap (λ (t : Bool). pick t (unchanged j) (journal_call j c)) e

-- a call that offers no bytes takes none, ended or not
pub none-taken : (t : Bool) → ◌≡◌ {A = ℕ} 0 (pick t 0 0)
none-taken true = refl
none-taken false = refl

module _ (w : Known) (s : State) (h : Seated s) (k : Knows w s) (c : Call) where
  open s use {engine as e, stores as st}

  abbrev ranged : Bool
  ranged = fits (kind_of c) e.awaits

  abbrev fitted : Bool
  fitted = fitting c (waits_of e.awaits e.operation)

  -- what a call that goes leads to has no reply that is too long, if the journal says so
  abbrev pub SizedBy : (Journal → Late → Type 0) → Type 0
  SizedBy p =
      (j : Journal) (late : Late) → Coupled s.tables e st j → LateAt e st late → reply_size late j (fed_going s c) ≤ 65535 → p j late

  -- and does what is due
  abbrev pub SpokenBy : Done → Type 0
  SpokenBy d =
      (j : Journal) (o : Mode) → Coupled s.tables e st j → ModeAt e.operation o → Kept (fed_reads j (fed_going s c))
      → Spoken d (due_in o j (fed_going s c)) (mode_after o j (fed_going s c))

  -- a call that goes, takes `t` bytes, and leaves `u` in the table store, with `m` nonces there
  pub agree_tabled : {m : ℕ} (d : Done) (t : ℕ) (u : List ℕ) → FineWith m e d → length u ≡ length s.tables
      → remembered m u ≡ take 32 (noted c goes w.nonces)
      → ((j : Journal) → Coupled s.tables e st j → t ≡ fed_takes j (fed_going s c))
      → ((j : Journal) → Coupled s.tables e st j → Follows (Kept (fed_reads j (fed_going s c))) u d (journal_fed j (fed_going s c)))
      → SizedBy (λ j late. Sized d (late_after late j (fed_going s c))) → SpokenBy d
      → Agree w s c goes (called (after t d) u)
  agree_tabled d t u f l q n g z a =
      record {
        due = f.goes;
        settings = f.settings;
        seated = record { sits = f.sits; tables = rw l h.tables };
        knows = record {
          settings = k.settings ∙ sym f.settings;
          waits = f.waits w.waits;
          nonces = ap (λ (i : ℕ). remembered i u) f.nonces ∙ q ∙ ap (λ (v : Verdict). take 32 (noted c v w.nonces)) (sym f.goes);
        };
        unmoved = λ n i. absurd (let z : ◌≡◌ {A = ℕ} 0 1 = cc in omega arith);
        count = n;
        journal = g;
        sized = z;
        spoken = a;
      }

  -- a call that goes and gives no nonce
  pub agree_goes : noted c goes w.nonces ≡ w.nonces → (t : ℕ) (d : Done) → Fine e d
      → ((j : Journal) → Coupled s.tables e st j → t ≡ fed_takes j (fed_going s c))
      → ((j : Journal) → Coupled s.tables e st j → Follows (Kept (fed_reads j (fed_going s c))) s.tables d (journal_fed j (fed_going s c)))
      → SizedBy (λ j late. Brief d) → SpokenBy d
      → AgreeKept w s c goes (after t d)
  agree_goes q t d f n g z a =
      agree_tabled d t s.tables f refl (k.nonces ∙ ap (take 32) (sym q)) n g
      (λ j late x y l. brief_sized d (late_after late j (fed_going s c)) (z j late x y l)) a

  -- a call that is refused
  noted-refused : (x : Call) (n : ℕ) → noted x (refused n) w.nonces ≡ w.nonces
  noted-refused (bytes_offered_of i) n = refl
  noted-refused stream_ended_of n = refl
  noted-refused reply_taken_of n = refl
  noted-refused (reply_given_of code hs) n = refl
  noted-refused (object_given_of hs b) n = refl
  noted-refused (body_given_of d) n = refl
  noted-refused body_failed_of n = refl
  noted-refused abort_acknowledged_of n = refl
  noted-refused (password_given_of p) n = refl
  noted-refused (nonce_given_of m l) n = refl
  noted-refused (credentials_given_of x) n = refl
  noted-refused (connections_closed_of l) n = refl

  pub agree_refused : (r : Refusal) → AgreeKept w s c (refused (refusal_number r)) (refuse r e st)
  agree_refused r =
      record {
        due = refl;
        settings = refl;
        seated = h;
        knows = record { settings = k.settings; waits = k.waits; nonces = k.nonces ∙ ap (take 32) (sym (noted-refused c (refusal_number r))) };
        unmoved = λ m i. refl;
        count = λ j x. refl;
        journal = λ j x. told-follows (record { given = refl; after = x; ends = λ i. refl });
        sized = λ j late x y l. record { small = refl; waiting = y };
        spoken = λ j o x y l. record { obeys = refl; mode = y };
      }

  -- nothing that is lent is too short
  enough : lacks_in s c ≡ false
  enough = go c
    where
      long : short (limit_of e) st ≡ false
      long = not_short (limit_of e) st h.sits.base.room

      both : (short_tables s.tables || short (limit_of e) st) ≡ false
      both = rw (tables-long s.tables h.tables) long

      go : (x : Call) → lacks_in s x ≡ false
      go (bytes_offered_of i) = both
      go stream_ended_of = long
      go reply_taken_of = long
      go (reply_given_of code hs) = both
      go (object_given_of hs b) = long
      go (body_given_of d) = long
      go body_failed_of = long
      go abort_acknowledged_of = long
      go (password_given_of p) = long
      go (nonce_given_of n l) = both
      go (credentials_given_of x) = long
      go (connections_closed_of l) = tables-long s.tables h.tables

  verdict_by : (j : Journal) (t : Bool) → ranged ≡ t → verdict_at w s j c ≡ pick (allowed c j && (t && fitted)) (judged c w j) (refused 9)
  unfolding verdict
  verdict_by j t i =
      ap (λ (x : Bool). pick x (refused 10) (pick (allowed c j && expected c w.waits) (judged c w j) (refused 9))) enough
      ∙ ap (λ (x : Bool). pick (allowed c j && x) (judged c w j) (refused 9))
      (ap (expected c) k.waits ∙ moment c e.operation e.awaits ∙ ap (λ (x : Bool). x && fitted) i)

  step_by : (t : Bool) → ranged ≡ t → step_of s c ≡ pick t (go_for s c) (refuses refusal.WrongMoment s)
  step_by t i =
      step_is s c
      ∙ ap (λ (x : Bool). pick x (refuses refusal.StoreTooShort s) (pick (sound e && ranged) (go_for s c) (refuses refusal.WrongMoment s))) enough
      ∙ ap₂ (λ (x y : Bool). pick (x && y) (go_for s c) (refuses refusal.WrongMoment s)) (is_sound e st h.sits) i

  -- by the moment: at another the call is refused with 9
  pub agrees : (ranged ≡ true → (j : Journal) → Coupled s.tables e st j
      → Agree w s c (pick (allowed c j && fitted) (judged c w j) (refused 9)) (go_for s c)) → Agrees w s c
  agrees f j y = go ranged refl
    where
      at : (v : Verdict) (m : Called) → verdict_at w s j c ≡ v → step_of s c ≡ m → Agree w s c v m → Agree w s c (verdict_at w s j c) (step_of s c)
      at v m i l a = subst (λ (x : Verdict). Agree w s c x (step_of s c)) (sym i) (subst (λ (y : Called). Agree w s c v y) (sym l) a)

      go : (t : Bool) → ranged ≡ t → Agree w s c (verdict_at w s j c) (step_of s c)
      go true i = at _ _ (verdict_by j true i) (step_by true i) (f i j y)
      go false i =
          at (refused 9) _ (verdict_by j false i ∙ ap (λ (x : Bool). pick x (judged c w j) (refused 9)) (and-false (allowed c j))) (step_by false i)
          (agree_refused refusal.WrongMoment)
