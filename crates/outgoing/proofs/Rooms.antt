-- Room for what is put in or goes back: the answers of `insert_early` and `rewind` are those of their definitions. Assumes nothing.
use mathlib.Core.Path.{◌≡◌, refl, ap, ap₂, ◌∙◌}
use mathlib.Core.Bool.{Bool, true, false, ◌||◌}
use mathlib.Core.List.{List}
use Prim.Native.Nat.{ℕ, ◌+◌, ◌≤◌}
use native.Mathlib.Omega.{arith}
use lib.ListN.{length, take}
use lib.Dec.{ltb}
use borrow.Author.Tests.{le-ltb, ltb-false}
use Rattle.base.specs.Pick.{pick}
use Rattle.packet.specs.declared.tlv.Wrote.{Wrote}
use Rattle.packet.specs.declared.tlv.Wrote.TheVariants.{Written}
use Rattle.packet.specs.declared.tlv.Wrote.TheVariants as wrote
use Rattle.packet.specs.declared.store.LengthField.{LengthField}
use Rattle.packet.specs.declared.store.LengthField.TheVariants.{TwoBytes}
use Rattle.packet.specs.Placed.{overlong_for, room_of, putting}
use Rattle.packet.proofs.Laid.{granted}
use Rattle.outgoing.specs.declared.queue.Part.{Part}
use Rattle.outgoing.specs.declared.queue.Rewound.{Rewound}
use Rattle.std.specs.Prelude.{Option, None}
use Rattle.outgoing.specs.Queue.{put_in, lead_end, inserted_early, back, back_bytes, headers_back, body_back, both_room, rewinding, rewound_with, rewound}

-- ---- one store

refused_by : (t : Bool) (end : ℕ) (f : LengthField) (r : Wrote) → ((w : ℕ) → r ≡ Written w → ⊥)
    → r ≡ pick t wrote.Short (pick false (overlong_for f) (Written end)) → t ≡ true
refused_by true end f r k e = refl
refused_by false end f r k e = absurd (k end e)

-- what is not granted does not fit
pub refused : (len at need : ℕ) (f : LengthField) (r : Wrote) → ((w : ℕ) → r ≡ Written w → ⊥) → r ≡ room_of len at need f false
    → ltb len (at + need) ≡ true
unfolding room_of
refused len at need f r k e = refused_by (ltb len (at + need)) (at + need) f r k e

-- the two answers of `insert_early`
pub early-refused : (d h : List ℕ) (n : ℕ) (r : Wrote) → ((w : ℕ) → r ≡ Written w → ⊥)
    → r ≡ room_of (length d) n (length h) TwoBytes false → putting r d ≡ inserted_early d n h
unfolding inserted_early room_of
early-refused d h n r k e =
    let t = refused (length d) n (length h) TwoBytes r k e in
    rw t (ap (λ (w : Wrote). putting w d) (e ∙ rw t))

pub early-written : (d h after : List ℕ) (n at next : ℕ) → Written next ≡ room_of (length d) n (length h) TwoBytes false
    → at ≡ lead_end (take n d) 0 → after ≡ put_in d at n h → putting (Written next) after ≡ inserted_early d n h
unfolding inserted_early
early-written d h after n at next e l a =
    let g = granted (length d) n (length h) next TwoBytes false e in
    rw (le-ltb (length d) (n + length h) g.fits, g.next_is, a, l)

-- ---- both stores

abbrev both_by : Bool → Bool → ℕ → ℕ → Option Rewound
both_by t u a b = pick t None (pick u None (back a b))

-- what is granted fits both
pub both-fit : (len n k size m c a b : ℕ) → both_room len n k size m c ≡ back a b → (n + k ≤ len) × (m + c ≤ size)
unfolding both_room
both-fit len n k size m c a b e = go (ltb len (n + k)) (ltb size (m + c)) refl refl e
  where
    go : (t u : Bool) → ltb len (n + k) ≡ t → ltb size (m + c) ≡ u → both_by t u (n + k) (m + c) ≡ back a b → (n + k ≤ len) × (m + c ≤ size)
    go true u p q w = absurd (let z : ◌≡◌ {A = ℕ} 0 1 = cc in omega arith)
    go false true p q w = absurd (let z : ◌≡◌ {A = ℕ} 0 1 = cc in omega arith)
    go false false p q w = (ltb-false _ _ p, ltb-false _ _ q)

-- the answer is that of `rewound`, given what the stores hold if it is granted or refused
answered : (k c hs bs after behind : List ℕ) (n m : ℕ) (r : Option Rewound) → r ≡ both_room (length hs) n (length k) (length bs) m (length c)
    → ((a b : ℕ) → r ≡ back a b → (after ≡ put_in hs 0 n k) × (behind ≡ put_in bs 0 m c)) → (r ≡ None → (after ≡ hs) × (behind ≡ bs))
    → rewinding r after behind ≡ rewound_with k c hs n bs m
unfolding both_room
answered k c hs bs after behind n m r e granted refused = go (ltb (length hs) (n + length k)) (ltb (length bs) (m + length c)) e
  where
    short : r ≡ None → rewinding r after behind ≡ rewinding None hs bs
    short w = let z = refused w in rw (w, z.0, z.1)

    go : (t u : Bool) → r ≡ both_by t u (n + length k) (m + length c)
        → rewinding r after behind
        ≡ pick (t || u) (rewinding None hs bs)
        (rewinding (back (n + length k) (m + length c)) (put_in hs 0 n k) (put_in bs 0 m c))
    go true u w = short w
    go false true w = short w
    go false false w = let z = granted (n + length k) (m + length c) w in rw (w, z.0, z.1)

-- as the code has it, which names parts and lengths by values of its own
pub record Asked (b : Bool) (p : List ℕ) (of ofBody : Part) (k c : ℕ) : Type 0 where
  pub of_is : of ≡ headers_back b
  pub body_is : ofBody ≡ body_back b
  pub kept : k ≡ length (back_bytes of p 0)
  pub chunks : c ≡ length (back_bytes ofBody p 0)

rewound_as : (b : Bool) (p hs bs after behind : List ℕ) (n m k c : ℕ) (of ofBody : Part) (r : Option Rewound) → Asked b p of ofBody k c
    → r ≡ both_room (length hs) n k (length bs) m c
    → ((x y : ℕ) → r ≡ back x y → (after ≡ put_in hs 0 n (back_bytes of p 0)) × (behind ≡ put_in bs 0 m (back_bytes ofBody p 0)))
    → (r ≡ None → (after ≡ hs) × (behind ≡ bs)) → rewinding r after behind ≡ rewound b p hs n bs m
unfolding rewound
rewound_as b p hs bs after behind n m k c of ofBody r q e g f =
    answered (back_bytes of p 0) (back_bytes ofBody p 0) hs bs after behind n m r
    (e ∙ ap₂ (λ (x y : ℕ). both_room (length hs) n x (length bs) m y) q.kept q.chunks) g f
    ∙ ap₂ (λ (x y : Part). rewound_with (back_bytes x p 0) (back_bytes y p 0) hs n bs m) q.of_is q.body_is

-- the two answers of `rewind`
pub rewound-short : (b : Bool) (p hs bs : List ℕ) (n m k c : ℕ) (of ofBody : Part) (r : Option Rewound) → Asked b p of ofBody k c
    → r ≡ both_room (length hs) n k (length bs) m c → r ≡ None → rewinding r hs bs ≡ rewound b p hs n bs m
rewound-short b p hs bs n m k c of ofBody r q e s =
    rewound_as b p hs bs hs bs n m k c of ofBody r q e (λ x y w. let z : ◌≡◌ {A = ℕ} 0 1 = cc in absurd (omega arith)) (λ w. (refl, refl))

pub rewound-back : (b : Bool) (p hs bs after behind : List ℕ) (n m k c x y : ℕ) (of ofBody : Part) (r : Option Rewound) → Asked b p of ofBody k c
    → r ≡ both_room (length hs) n k (length bs) m c → r ≡ back x y → after ≡ put_in hs 0 n (back_bytes of p 0)
    → behind ≡ put_in bs 0 m (back_bytes ofBody p 0) → rewinding r after behind ≡ rewound b p hs n bs m
rewound-back b p hs bs after behind n m k c x y of ofBody r q e s h g =
    rewound_as b p hs bs after behind n m k c of ofBody r q e (λ u v w. (h, g)) (λ w. let z : ◌≡◌ {A = ℕ} 0 1 = cc in absurd (omega arith))
