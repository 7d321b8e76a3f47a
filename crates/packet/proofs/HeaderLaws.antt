-- The laws of headers: the list by what the cursor finds at each place, and the first header of an id there and in the list.
-- Assumes nothing.
use mathlib.Core.Path.{◌≡◌, refl, sym, ap, ◌∙◌}
use mathlib.Core.Bool.{Bool, true, false}
use mathlib.Core.List.{List, [], ◌∷◌}
use mathlib.Core.Option.{Option, none, some}
use Prim.Native.Nat.{ℕ, zero, suc, ◌+◌, ◌-◌, ◌≤◌, ◌<◌}
use native.Mathlib.Omega.{arith}
use lib.ListN.{length}
use lib.Dec.{eqb}
use borrow.Author.Tests.{eqb-true, le-ltb}
use Rattle.base.specs.Pick.{pick}
use Rattle.std.specs.Prelude.{is_some}
use Rattle.base.specs.Place.{Place, span, Some, None}
use Rattle.base.proofs.Spans.{span_start, span_end}
use Rattle.packet.specs.declared.header.HeaderEncoding.{HeaderEncoding}
use Rattle.packet.specs.declared.header.HeaderAt.{HeaderAt}
use Rattle.packet.specs.declared.header.HeaderAt.TheVariants.{At, Unreadable, End}
use Rattle.packet.specs.Tags.{bytes_at}
use Rattle.packet.specs.Header.{encoding_of, lead_of, size_at, allowed, part, encoded_at, header_at_of, Header, push, walk_from, walk, read_headers, first, present, first_at, first_from, first_place}
use Rattle.packet.specs.HeaderList.{is_read}
use Rattle.packet.proofs.HeaderBytes.{Stands, stands, header_at_within, header_at_end}

-- ---- a header that is whole

pub record Whole (e : HeaderEncoding) (s : List ℕ) (at n size : ℕ) : Type 0 where
  pub lead : n ≡ lead_of e
  pub all : size ≡ size_at e s at
  pub past : n ≤ size
  pub fits : size ≤ length s - at

pub whole_at : (id : ℕ) (e : HeaderEncoding) (s : List ℕ) (at n size : ℕ) (x : Bool) → Whole e s at n size
    → allowed id (part s (at + n) (at + size)) ≡ x
    → encoded_at id e s at ≡ pick x (At id e (at + n) (at + size)) Unreadable
unfolding encoded_at
whole_at id e s at n size x w a =
    simp (
      ← w.lead,
      ← w.all,
      le-ltb (length s - at) n (omega arith),
      le-ltb size n w.past,
      le-ltb (length s - at) size w.fits,
      a,
    )

-- ---- the list by what the cursor finds

-- any fuel over what is left gives the same
walk_on_lem : (s : List ℕ) (at : ℕ) (f g : ℕ → Option (List Header)) → ((n : ℕ) → length s - n < length s - at → f n ≡ g n)
    → (a : HeaderAt) → header_at_of s at ≡ a → walk_from s a f ≡ walk_from s a g
walk_on_lem s at f g same End e = refl
walk_on_lem s at f g same Unreadable e = refl
walk_on_lem s at f g same (At id c from to) e =
    ap (push (record { id = id; value = part s from to })) (same to (omega (arith, header_at_within s at id c from to e)))

enough : (j k : ℕ) (s : List ℕ) (at : ℕ) → length s - at < j → length s - at < k → walk j s at ≡ walk k s at
unfolding walk
enough zero k s at h l = absurd (omega arith)
enough (suc j) zero s at h l = absurd (omega arith)
enough (suc j) (suc k) s at h l = walk_on_lem s at (walk j s) (walk k s) (λ n m. enough j k s n (omega arith) (omega arith))
    (header_at_of s at) refl

-- a header at a place, and the list from there on: it, and what follows it
pub record Here (s : List ℕ) (at id : ℕ) (e : HeaderEncoding) (from to : ℕ) : Type 0 where
  pub stands : Stands s at id e from to
  pub next : at < to
  pub list : read_headers s at ≡ push (record { id = id; value = part s from to }) (read_headers s to)

abbrev pub Reads : List ℕ → ℕ → HeaderAt → Type 0
Reads s at End = (length s ≤ at) × (read_headers s at ≡ some [])
Reads s at Unreadable = read_headers s at ≡ none
Reads s at (At id e from to) = Here s at id e from to

-- a step of the list's walk
step : (s : List ℕ) (at : ℕ) (a : HeaderAt) → header_at_of s at ≡ a → read_headers s at ≡ walk_from s a (read_headers s)
unfolding read_headers walk
step s at a e =
    ap (λ (a : HeaderAt). walk_from s a (walk (length s) s)) e
    ∙ walk_on_lem s at (walk (length s) s) (read_headers s) (λ n m. enough (length s) (suc (length s)) s n (omega arith) (omega arith)) a e

-- what the cursor finds at a place says what the list from there on is: so the walk from a place gives `read_headers`
pub by_cursor_lem : (s : List ℕ) (at : ℕ) (a : HeaderAt) → header_at_of s at ≡ a → Reads s at a
by_cursor_lem s at End e = (header_at_end s at e, step s at End e)
by_cursor_lem s at Unreadable e = step s at Unreadable e
by_cursor_lem s at (At id c from to) e =
    record { stands = stands s at id c from to e; next = (header_at_within s at id c from to e).0; list = step s at (At id c from to) e }

pub push-read : (h : Header) (r : Option (List Header)) → is_read (push h r) ≡ is_read r
push-read h none = refl
push-read h (some hs) = refl

-- ---- the first header of an id

first_on : (id : ℕ) (s : List ℕ) (at : ℕ) (f g : ℕ → Place) → ((n : ℕ) → length s - n < length s - at → f n ≡ g n)
    → (a : HeaderAt) → header_at_of s at ≡ a → first_at a id f ≡ first_at a id g
first_on id s at f g same End e = refl
first_on id s at f g same Unreadable e = refl
first_on id s at f g same (At i c from to) e =
    ap (pick (eqb i id) (span from to)) (same to (omega (arith, header_at_within s at i c from to e)))

first_enough : (j k id : ℕ) (s : List ℕ) (at : ℕ) → length s - at < j → length s - at < k → first_from j id s at ≡ first_from k id s at
unfolding first_from
first_enough zero k id s at h l = absurd (omega arith)
first_enough (suc j) zero id s at h l = absurd (omega arith)
first_enough (suc j) (suc k) id s at h l =
    first_on id s at (first_from j id s) (first_from k id s) (λ n m. first_enough j k id s n (omega arith) (omega arith)) (header_at_of s at) refl

-- by what the cursor finds at a place
pub first_step : (id : ℕ) (s : List ℕ) (at : ℕ) (a : HeaderAt) → header_at_of s at ≡ a → first_place id s at ≡ first_at a id (first_place id s)
unfolding first_place first_from
first_step id s at a e =
    ap (λ (a : HeaderAt). first_at a id (first_from (length s) id s)) e
    ∙ first_on id s at (first_from (length s) id s) (first_place id s)
    (λ n m. first_enough (length s) (suc (length s)) id s n (omega arith) (omega arith)) a e

-- a list that is read has a first header before the list of the rest
pub record First (h : Header) (r : Option (List Header)) (hs : List Header) : Type 0 where
  pub rest : List Header
  pub is : hs ≡ h ∷ rest
  pub of : r ≡ some rest

pub first_of : (h : Header) (r : Option (List Header)) (hs : List Header) → push h r ≡ some hs → First h r hs
first_of h none hs e = let z : ◌≡◌ {A = ℕ} 0 1 = cc in absurd (omega arith)
first_of h (some rs) hs e = record { rest = rs; is = cc; of = refl }

pick-bytes : (s : List ℕ) (b e : ℕ) (r : Place) (x : Bool) → bytes_at s (pick x (span b e) r) ≡ pick x (some (part s b e)) (bytes_at s r)
pick-bytes s b e r true = refl
pick-bytes s b e r false = refl

agree_by : (id : ℕ) (s : List ℕ) (at : ℕ) (hs : List Header) → read_headers s at ≡ some hs
    → ((to : ℕ) (rest : List Header) → length s - to < length s - at → read_headers s to ≡ some rest → bytes_at s (first_place id s to)
    ≡ first id rest)
    → (a : HeaderAt) → header_at_of s at ≡ a → bytes_at s (first_place id s at) ≡ first id hs
unfolding first
agree_by id s at hs e on End h =
    let w = (by_cursor_lem s at End h).1 in
    let q : hs ≡ [] = cc in
    ap (bytes_at s) (first_step id s at End h) ∙ sym (ap (first id) q)
agree_by id s at hs e on Unreadable h =
    let w = by_cursor_lem s at Unreadable h in
    let z : ◌≡◌ {A = ℕ} 0 1 = cc in
    absurd (omega arith)
agree_by id s at hs e on (At i c b t) h =
    let w = by_cursor_lem s at (At i c b t) h in
    let k = first_of (record { id = i; value = part s b t }) (read_headers s t) hs (sym w.list ∙ e) in
    ap (bytes_at s) (first_step id s at (At i c b t) h)
    ∙ pick-bytes s b t (first_place id s t) (eqb i id)
    ∙ ap (pick (eqb i id) (some (part s b t))) (on t k.rest (omega (arith, w.next, w.stands.fits)) k.of)
    ∙ sym (ap (first id) k.is)

agrees : (n id : ℕ) (s : List ℕ) (at : ℕ) (hs : List Header) → length s - at < n → read_headers s at ≡ some hs
    → bytes_at s (first_place id s at) ≡ first id hs
agrees zero id s at hs l e = absurd (omega arith)
agrees (suc n) id s at hs l e = agree_by id s at hs e (λ to rest m. agrees n id s to rest (omega arith)) (header_at_of s at) refl

-- the place that `first_place` gives holds the value of the list's first header of that id
pub first-agrees : (id : ℕ) (s : List ℕ) (from : ℕ) (hs : List Header) → read_headers s from ≡ some hs
    → bytes_at s (first_place id s from) ≡ first id hs
first-agrees id s from hs e = agrees (suc (length s)) id s from hs (omega arith) e

-- it is there exactly where there is a value
pub is_some-present : (s : List ℕ) (f : Place) → is_some f ≡ present (bytes_at s f)
is_some-present s (Some p) = refl
is_some-present s None = refl

-- and a whole header of that id stands around it
pub record FoundIn (id : ℕ) (s : List ℕ) (b e : ℕ) : Type 0 where
  pub at : ℕ
  pub stands : Stands s at id (encoding_of id) b e

found_here : (id i : ℕ) (s : List ℕ) (at b e f t : ℕ) (c : HeaderEncoding) (r : Place) (x : Bool) → eqb i id ≡ x → Stands s at i c f t
    → (r ≡ span b e → FoundIn id s b e) → pick x (span f t) r ≡ span b e → FoundIn id s b e
found_here id i s at b e f t c r true p w on q =
    let j : i ≡ id = eqb-true i id p in
    let k : f ≡ b = span_start f t b e q in
    let l : t ≡ e = span_end f t b e q in
    let m : c ≡ encoding_of id = w.encoding ∙ ap encoding_of j in
    record { at = at; stands = rw (m, j, k, l) at w }
found_here id i s at b e f t c r false p w on q = on q

found_by : (id : ℕ) (s : List ℕ) (at b e : ℕ) → first_place id s at ≡ span b e
    → ((to : ℕ) → length s - to < length s - at → first_place id s to ≡ span b e → FoundIn id s b e)
    → (a : HeaderAt) → header_at_of s at ≡ a → FoundIn id s b e
found_by id s at b e q on End h =
    let w = first_step id s at End h in
    let z : ◌≡◌ {A = ℕ} 0 1 = cc in
    absurd (omega arith)
found_by id s at b e q on Unreadable h =
    let w = first_step id s at Unreadable h in
    let z : ◌≡◌ {A = ℕ} 0 1 = cc in
    absurd (omega arith)
found_by id s at b e q on (At i c f t) h =
    let w = by_cursor_lem s at (At i c f t) h in
    found_here id i s at b e f t c (first_place id s t) (eqb i id) refl w.stands
    (on t (omega (arith, w.next, w.stands.fits)))
    (sym (first_step id s at (At i c f t) h) ∙ q)

finds : (n id : ℕ) (s : List ℕ) (at b e : ℕ) → length s - at < n → first_place id s at ≡ span b e → FoundIn id s b e
finds zero id s at b e l q = absurd (omega arith)
finds (suc n) id s at b e l q = found_by id s at b e q (λ to m. finds n id s to b e (omega arith)) (header_at_of s at) refl

pub first_found : (id : ℕ) (s : List ℕ) (from b e : ℕ) → first_place id s from ≡ span b e → FoundIn id s b e
first_found id s from b e q = finds (suc (length s)) id s from b e (omega arith) q
