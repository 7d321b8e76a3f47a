-- What a call learns from the guard: where it refuses, the model refuses with the same number; where it lets the call go on, each store has
-- room and the state's counts are in bounds. Assumes nothing.
use mathlib.Core.Path.{◌≡◌, refl, sym, ◌∙◌}
use mathlib.Core.Bool.{Bool, true, false, ◌&&◌, ◌||◌}
use mathlib.Core.List.{List}
use Prim.Native.Nat.{ℕ, ◌<◌, ◌≤◌}
use native.Mathlib.Omega.{arith}
use Rattle.base.specs.Pick.{pick}
use lib.ListN.{length, take, length-take}
use lib.Dec.{ltb, leb}
use borrow.Author.Tests.{ltb-true, ltb-false, leb-true}
use Rattle.model.specs.Step.{Stores, Stepped, limit_of}
use Rattle.model.specs.Guard.{short, short_tables, sound, fits, guarded, refuse, sound_operation}
use Rattle.model.proofs.Fit.{and_left, and_right, or_left, or_right, Room, room}
use Rattle.engine.specs.Guard.{Verdict, proceed, refuses, short_by, guarded_by, guarded_lent}
use Rattle.server.specs.declared.CallKind.{CallKind}
use Rattle.server.specs.declared.Refusal.{Refusal}
use Rattle.server.specs.declared.Refusal.TheVariants as refusal
use Rattle.server.specs.declared.Engine.{Engine}

-- counts in bounds
pub record Bounds (e : Engine) : Type 0 where
  pub begun : e.begun < 65535
  pub length : e.length ≤ 65535
  pub count : e.peer.count ≤ 64
  pub remote : 255 ≤ e.peer.remote_max_packet_length
  pub nonces : e.peer.nonces ≤ 32
  pub operation : sound_operation (limit_of e) e.operation ≡ true

pub bounds : (e : Engine) → sound e ≡ true → Bounds e
unfolding sound
bounds e k =
    let a = and_right (ltb e.begun 65535) _ k in
    let b = and_right (leb e.length 65535) _ a in
    let c = and_right (leb e.peer.count 64) _ b in
    let d = and_right (leb 255 e.peer.remote_max_packet_length) _ c in
    let f = and_right (leb e.peer.nonces 32) _ d in
    record {
      begun = ltb-true _ _ (and_left _ _ k);
      length = leb-true _ _ (and_left _ _ a);
      count = leb-true _ _ (and_left _ _ b);
      remote = leb-true _ _ (and_left _ _ c);
      nonces = leb-true _ _ (and_left _ _ d);
      operation = f;
    }

-- bytes at the front of a store that is long
pub record Prefix (n : ℕ) (s : List ℕ) : Type 0 where
  pub inside : n ≤ length s
  pub count : n ≡ length (take n s)
  pub short : length (take n s) ≤ 65535

pub prefix_in : (n : ℕ) (s : List ℕ) → n ≤ 65535 → 65535 ≤ length s → Prefix n s
prefix_in n s h k = let l = length-take n s in record { inside = omega arith; count = omega arith; short = omega arith }

-- ---- the guard

-- what a call that goes on knows
pub record Goes (k : CallKind) (e : Engine) (s : Stores) : Type 0 where
  pub room : Room (limit_of e) s
  pub bounds : Bounds e
  pub last : Prefix e.length s.packet
  pub whole : (go : Stepped) → guarded k e s go ≡ go

-- by the stores themselves
abbrev pub short_in : ℕ → Stores → Bool
short_in limit s = short_by limit (length s.packet) (length s.headers) (length s.body) (length s.reply)

pub same-short : (limit : ℕ) (s : Stores) (t : Bool) → short_in limit s ≡ t → short limit s ≡ t
unfolding short short_by
same-short limit s t h = h

abbrev pub guarded_in : CallKind → Engine → Stores → Verdict
guarded_in k e s = guarded_by k e (length s.packet) (length s.headers) (length s.body) (length s.reply)

-- a refusal is told by the guard's answer, and an answer that lets a call proceed is none
pub told_refusal : (r q : Refusal) → refuses r ≡ refuses q → r ≡ q
told_refusal r q h = cc

pub no_refusal : (r : Refusal) → proceed ≡ refuses r → ⊥
no_refusal r h = let z : ◌≡◌ {A = ℕ} 0 1 = cc in omega arith

module _ (k : CallKind) (e : Engine) (s : Stores) where
  fitting : Bool
  fitting = sound e && fits k e.awaits

  -- where the guard refuses, the model refuses with the same
  pub turned : (go : Stepped) (x : Verdict) (r : Refusal) → x ≡ guarded_in k e s → x ≡ refuses r → refuse r e s ≡ guarded k e s go
  unfolding guarded_by fitting
  turned go x r p w = by (short_in (limit_of e) s) fitting refl refl (sym p ∙ w)
    where
      by : (t f : Bool) → short_in (limit_of e) s ≡ t → fitting ≡ f → guarded_in k e s ≡ refuses r → refuse r e s ≡ guarded k e s go
      by true f h i q =
          let z : refuses refusal.StoreTooShort ≡ refuses r = simp h at q in
          simp (same-short (limit_of e) s true h, sym (told_refusal _ _ z))
      by false true h i q = let z : proceed ≡ refuses r = simp (h, i) at q in absurd (no_refusal r z)
      by false false h i q =
          let z : refuses refusal.WrongMoment ≡ refuses r = simp (h, i) at q in
          simp (same-short (limit_of e) s false h, i, sym (told_refusal _ _ z))

  -- where it lets the call proceed, the call goes on
  pub going : (x : Verdict) → x ≡ guarded_in k e s → x ≡ proceed → Goes k e s
  unfolding guarded_by fitting
  going x p w = by (short_in (limit_of e) s) fitting refl refl (sym p ∙ w)
    where
      by : (t f : Bool) → short_in (limit_of e) s ≡ t → fitting ≡ f → guarded_in k e s ≡ proceed → Goes k e s
      by true f h i q = let z : refuses refusal.StoreTooShort ≡ proceed = simp h at q in absurd (no_refusal _ (sym z))
      by false false h i q = let z : refuses refusal.WrongMoment ≡ proceed = simp (h, i) at q in absurd (no_refusal _ (sym z))
      by false true h i q =
          let z = room (limit_of e) s (same-short (limit_of e) s false h) in
          let u = bounds e (and_left _ _ i) in
          record {
            room = z;
            bounds = u;
            last = prefix_in _ _ u.length z.packet;
            whole = λ go. simp (same-short (limit_of e) s false h, i);
          }

-- ---- the guard of a call that is lent the table store

abbrev pub lack_in : ℕ → Stores → List ℕ → Bool
lack_in limit s t = ltb (length t) 320 || short_in limit s

pub same_lack : (limit : ℕ) (s : Stores) (t : List ℕ) (b : Bool) → lack_in limit s t ≡ b → (short_tables t || short limit s) ≡ b
unfolding short short_by short_tables
same_lack limit s t b h = h

abbrev pub guarded_lent_in : CallKind → Engine → Stores → List ℕ → Verdict
guarded_lent_in k e s t = guarded_lent k e (length t) (length s.packet) (length s.headers) (length s.body) (length s.reply)

-- what such a call knows where it goes on
pub record GoesLent (k : CallKind) (e : Engine) (s : Stores) (t : List ℕ) : Type 0 where
  pub goes : Goes k e s
  pub tables : 320 ≤ length t
  pub ids : 64 ≤ length t
  pub enough : (short_tables t || short (limit_of e) s) ≡ false
  pub fitted : (sound e && fits k e.awaits) ≡ true

module _ (k : CallKind) (e : Engine) (s : Stores) (t : List ℕ) where
  fitting-lent : Bool
  fitting-lent = sound e && fits k e.awaits

  -- where the guard refuses, the model does: `f` is what a refusal gives, `go` what goes on
  pub turned-lent : {A : Type 0} (f : Refusal → A) (go : A) (x : Verdict) (r : Refusal) → x ≡ guarded_lent_in k e s t → x ≡ refuses r
      → f r ≡ pick (short_tables t || short (limit_of e) s) (f refusal.StoreTooShort) (pick (sound e && fits k e.awaits) go (f refusal.WrongMoment))
  unfolding guarded_lent fitting-lent
  turned-lent {A = A} f go x r p w = by (lack_in (limit_of e) s t) fitting-lent refl refl (sym p ∙ w)
    where
      by : (u v : Bool) → lack_in (limit_of e) s t ≡ u → fitting-lent ≡ v → guarded_lent_in k e s t ≡ refuses r
          → f r ≡ pick (short_tables t || short (limit_of e) s) (f refusal.StoreTooShort)
          (pick (sound e && fits k e.awaits) go (f refusal.WrongMoment))
      by true v h i q =
          let z : refuses refusal.StoreTooShort ≡ refuses r = simp h at q in
          simp (same_lack (limit_of e) s t true h, sym (told_refusal _ _ z))
      by false true h i q = let z : proceed ≡ refuses r = simp (h, i) at q in absurd (no_refusal r z)
      by false false h i q =
          let z : refuses refusal.WrongMoment ≡ refuses r = simp (h, i) at q in
          simp (same_lack (limit_of e) s t false h, i, sym (told_refusal _ _ z))

  pub going-lent : (x : Verdict) → x ≡ guarded_lent_in k e s t → x ≡ proceed → GoesLent k e s t
  unfolding guarded_lent guarded_by fitting-lent
  going-lent x p w = by (lack_in (limit_of e) s t) fitting-lent refl refl (sym p ∙ w)
    where
      by : (u v : Bool) → lack_in (limit_of e) s t ≡ u → fitting-lent ≡ v → guarded_lent_in k e s t ≡ proceed → GoesLent k e s t
      by true v h i q = let z : refuses refusal.StoreTooShort ≡ proceed = simp h at q in absurd (no_refusal _ (sym z))
      by false false h i q = let z : refuses refusal.WrongMoment ≡ proceed = simp (h, i) at q in absurd (no_refusal _ (sym z))
      by false true h i q =
          let long : short_in (limit_of e) s ≡ false = or_right (ltb (length t) 320) _ h in
          let room : 320 ≤ length t = ltb-false _ _ (or_left _ _ h) in
          record {
            goes = going k e s proceed (sym (simp (long, i))) refl;
            tables = room;
            ids = omega arith;
            enough = same_lack (limit_of e) s t false h;
            fitted = i;
          }
