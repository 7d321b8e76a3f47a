-- A Put or a Get that is called in a link in which nothing is open and that goes: its headers are such as a user may give, and its first packet is
-- made. Assumes nothing.
use mathlib.Core.Path.{◌≡◌, refl, sym, ap, ◌∙◌}
use mathlib.Core.List.{List}
use mathlib.Core.Bool.{Bool, true, false, ◌||◌, not, true≢false, false≢true}
use Prim.Native.Nat.{ℕ, ◌≤◌}
use lib.ListN.{length}
use lib.Dec.{ltb}
use borrow.Author.Tests.{ltb-false, lt-ltb, le-leb, le-ltb}
use Rattle.packet.specs.Canonical.{canonical}
use Rattle.packet.specs.Header.{read_headers}
use Rattle.journal.specs.Journal.{list_of}
use Rattle.client_model.specs.Numbers.{same_await}
use Rattle.client_model.specs.Step.{Stores, capacity_of, Stepped, after}
use Rattle.client_model.specs.Request.{requests_first}
use Rattle.client_model.specs.Guard.{short, sound, any_of, is_reserved, bad_headers, too_long_of, checked}
use Rattle.client_model.specs.Calls.{request_step}
use Rattle.client_model.specs.declared.Kind.{Kind}
use Rattle.client_model.specs.declared.Await.{Await}
use Rattle.client_model.specs.declared.Await.TheVariants as await
use Rattle.link.specs.Link.{Link}
use Rattle.link.specs.Told.{is_refused}
use Rattle.link.proofs.Joint.{AtRest}

or_left : (a b : Bool) → (a || b) ≡ false → a ≡ false
or_left true b e = e
or_left false b e = refl

or_right : (a b : Bool) → (a || b) ≡ false → b ≡ false
or_right true b e = absurd (true≢false e)
or_right false b e = e

-- the lengths of the stores
pub record Long (s : Stores) : Type 0 where
  pub packet : 65535 ≤ length s.packet
  pub headers : 65535 ≤ length s.headers
  pub body : 65535 ≤ length s.body
  pub request : 65535 ≤ length s.request

pub long : (s : Stores) → short s ≡ false → Long s
unfolding short
long s e =
    let p = ltb (length s.packet) 65535 in
    let h = ltb (length s.headers) 65535 in
    let b = ltb (length s.body) 65535 in
    let q = ltb (length s.request) 65535 in
    let x = or_right p (h || (b || q)) e in
    let y = or_right h (b || q) x in
    record {
      packet = ltb-false (length s.packet) 65535 (or_left p (h || (b || q)) e);
      headers = ltb-false (length s.headers) 65535 (or_left h (b || q) x);
      body = ltb-false (length s.body) 65535 (or_left b q y);
      request = ltb-false (length s.request) 65535 (or_right b q y);
    }

pub not_short : (s : Stores) → Long s → short s ≡ false
unfolding short
not_short s w = simp (le-ltb _ _ w.packet, le-ltb _ _ w.headers, le-ltb _ _ w.body, le-ltb _ _ w.request)

-- what is known of such a call
pub record Opens (k : Kind) (hs : List ℕ) (has : Bool) (l : Link) : Type 0 where
  pub own : bad_headers hs ≡ false
  pub fit : too_long_of (capacity_of l.client) hs ≡ false
  pub within : length hs ≤ 65535
  pub step : request_step l.client k hs has l.stores ≡ after 0 (requests_first l.client k hs has l.stores)

module _ (box : ℕ) (l : Link) (i : AtRest box l) (k : Kind) (hs : List ℕ) (has : Bool)
    (go : not (is_refused (request_step l.client k hs has l.stores).took.outcome) ≡ true) where
  idle_sound : sound l.client ≡ true
  unfolding sound
  idle_sound = simp (lt-ltb _ _ i.begun, le-leb _ _ i.latest, le-leb _ _ i.least, i.counts)

  -- the call, by whether its headers may be given and whether they are too long
  abbrev checks : Bool → Bool → Stepped
  checks b t = checked b t l.client l.stores (requests_first l.client k hs has l.stores)

  -- the guard lets it pass
  first_step : request_step l.client k hs has l.stores ≡ checks (bad_headers hs) (too_long_of (capacity_of l.client) hs)
  unfolding request_step
  first_step = simp (i.room, idle_sound, ap (λ (a : Await). same_await a await.Call) i.awaits)

  -- it would be refused otherwise
  fits_by : (b t : Bool) → bad_headers hs ≡ b → too_long_of (capacity_of l.client) hs ≡ t → (b ≡ false) × (t ≡ false)
  fits_by true t e f =
      absurd (false≢true (sym (ap (λ (m : Stepped). not (is_refused m.took.outcome))
      (first_step ∙ ap (λ (x : Bool). checks x (too_long_of (capacity_of l.client) hs)) e)) ∙ go))
  fits_by false true e f =
      absurd (false≢true (sym (ap (λ (m : Stepped). not (is_refused m.took.outcome))
      (first_step ∙ ap (λ (x : Bool). checks x (too_long_of (capacity_of l.client) hs)) e ∙ ap (checks false) f)) ∙ go))
  fits_by false false e f = (refl, refl)

  pub opens : Opens k hs has l
  unfolding bad_headers
  opens =
      let w = fits_by (bad_headers hs) (too_long_of (capacity_of l.client) hs) refl refl in
      record {
        own = w.0;
        fit = w.1;
        within = ltb-false 65535 (length hs) (or_left (ltb 65535 (length hs)) (not (canonical hs) || any_of is_reserved (list_of (read_headers hs 0)))
            w.0);
        step = first_step ∙ ap (λ (x : Bool). checks x (too_long_of (capacity_of l.client) hs)) w.0 ∙ ap (checks false) w.1;
      }
