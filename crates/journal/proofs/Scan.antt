-- The Put forms of a list of packets, found in one pass: all that is found is a Put form, every Put form is found, and a list of forms
-- that has just these is the only one. Assumes nothing.
use mathlib.Core.Path.{◌≡◌, refl, sym, ap, ap₂, ◌∙◌, subst}
use mathlib.Core.List.{List, [], ◌∷◌, ◌++◌, map}
use mathlib.Core.Bool.{Bool, true, false, ◌&&◌, not, false≢true}
use mathlib.Core.Logic.{◌⊎◌, inl, inr}
use Prim.Native.Nat.{ℕ, zero, suc, ◌+◌, ◌-◌, ◌≤◌, ◌<◌}
use native.Mathlib.Omega.{arith}
use lib.ListN.{length, take, drop}
use lib.Seq.{take-nil, drop-nil, drop-drop}
use lib.Dec.{leb, eqb}
use borrow.Author.Tests.{leb-true, le-leb, lt-leb, eqb-true, eqb-false}
use Rattle.base.specs.Pick.{pick}
use Rattle.journal.specs.Record.{Record, bare, joined, size_of}
use Rattle.journal.specs.Journal.{busy, Marked}
use Rattle.journal.specs.PutForm.{readable_put, is_final, carried_in, admits, is_trailed, Starts, Puts, carried, OnePut, Form, run_of, IsForm, In, Apart}
use Rattle.journal.specs.Claim.{OneList}
use Rattle.journal.proofs.Laws.{joined-bare, joined_assoc, size-joined}

-- ---- the forms, found in one pass: `run` follows a Put that began at `at` and has n packets that carry c, `forms` starts one at each
-- packet that may begin one; places count from i

-- what is carried, with a packet more
abbrev pub adds : Record → Marked → Record
adds c p = joined c (carried_in p.bytes)

abbrev pub closing : ℕ → ℕ → ℕ → Record → List Form
closing limit at n c = pick (leb (size_of c) limit) (record { first = at; count = n; given = c } ∷ []) []

abbrev pub run : ℕ → ℕ → ℕ → Record → List Marked → List Form
run limit at n c [] = []
run limit at n c (p ∷ ps) =
    pick (readable_put p.bytes)
    (pick (is_final p.bytes) (closing limit at (n + 1) (adds c p)) (run limit at (n + 1) (adds c p) ps))
    []

abbrev pub may_begin : Marked → Bool
may_begin p =
    not (busy p.before.opened) && (not p.before.ended && (admits p.before p.bytes && not (is_trailed p.before p.bytes)))

abbrev pub begins : ℕ → ℕ → Marked → List Marked → List Form
begins limit i p ps = pick (may_begin p) (run limit i 0 bare (p ∷ ps)) []

abbrev pub forms : ℕ → ℕ → List Marked → List Form
forms limit i [] = []
forms limit i (p ∷ ps) = begins limit i p ps ++ forms limit (i + 1) ps

-- a Put past the limit comes to nothing
pub past : (limit at n : ℕ) (c : Record) (ps : List Marked) → limit < size_of c → run limit at n c ps ≡ []
past limit at n c [] h = refl
past limit at n c (p ∷ ps) h = go (readable_put p.bytes) (is_final p.bytes) refl refl (past limit at (n + 1) total ps longer)
  where
    total : Record
    total = adds c p

    longer : limit < size_of total
    longer = omega (arith, size-joined c (carried_in p.bytes))

    go : (t u : Bool) → readable_put p.bytes ≡ t → is_final p.bytes ≡ u → run limit at (n + 1) total ps ≡ [] → run limit at n c (p ∷ ps) ≡ []
    go false u e f k = simp e
    go true true e f k = simp (e, f, lt-leb _ _ longer)
    go true false e f k = simp (e, f, k)

-- ---- lists of forms

in_append : (f : Form) (k l : List Form) → In f (k ++ l) → In f k ⊎ In f l
in_append f [] l w = inr w
in_append f (g ∷ k) l (inl e) = inl (inl e)
in_append f (g ∷ k) l (inr w) = go (in_append f k l w)
  where
    go : In f k ⊎ In f l → In f (g ∷ k) ⊎ In f l
    go (inl x) = inl (inr x)
    go (inr y) = inr y

in_left : (f : Form) (k l : List Form) → In f k → In f (k ++ l)
in_left f [] l w = absurd w
in_left f (g ∷ k) l (inl e) = inl e
in_left f (g ∷ k) l (inr w) = inr (in_left f k l w)

in_right : (f : Form) (k l : List Form) → In f l → In f (k ++ l)
in_right f [] l w = w
in_right f (g ∷ k) l w = inr (in_right f k l w)

form-eq : (f : Form) (a n : ℕ) (c : Record) → f.first ≡ a → f.count ≡ n → f.given ≡ c → f ≡ record { first = a; count = n; given = c }
form-eq f a n c i j k =
    ap (λ (x : ℕ). record { first = x; count = f.count; given = f.given }) i
    ∙ ap (λ (x : ℕ). record { first = a; count = x; given = f.given }) j
    ∙ ap (λ (x : Record). record { first = a; count = n; given = x }) k

-- ---- a Put that is followed

-- the form that `run` finds in the packets ps that come next
record Found (limit at n : ℕ) (c : Record) (ps : List Marked) (f : Form) : Type 0 where
  more : ℕ
  first : f.first ≡ at
  count : f.count ≡ n + more
  size : length (take more ps) ≡ more
  puts : Puts (take more ps)
  within : size_of f.given ≤ limit
  given : f.given ≡ joined c (carried (take more ps))

puts-cons : (p : Marked) (l : List Marked) → readable_put p.bytes ≡ true → is_final p.bytes ≡ false → Puts l → Puts (p ∷ l)
puts-cons p [] e j w = absurd w
puts-cons p (q ∷ l) e j w = (e, j, w)

module _ (limit at n : ℕ) (c : Record) (p : Marked) (ps : List Marked) (f : Form) where
  abbrev total : Record
  total = adds c p

  module _ (e : readable_put p.bytes ≡ true) where
    found_here : is_final p.bytes ≡ true → leb (size_of total) limit ≡ true → (f ≡ record { first = at; count = n + 1; given = total }) ⊎ ⊥
        → Found limit at n c (p ∷ ps) f
    found_here j g (inr w) = absurd w
    found_here j g (inl q) =
        let k : size_of total ≤ limit = leb-true _ _ g in
        record {
          more = 1;
          first = ap (λ (x : Form). x.first) q;
          count = ap (λ (x : Form). x.count) q;
          size = refl;
          puts = (e, j);
          within = omega (arith, ap (λ (x : Form). size_of x.given) q);
          given = ap (λ (x : Form). x.given) q ∙ ap (joined c) (sym (joined-bare (carried_in p.bytes)));
        }

    found_later : is_final p.bytes ≡ false → Found limit at (n + 1) total ps f → Found limit at n c (p ∷ ps) f
    found_later j w =
        record {
          more = suc w.more;
          first = w.first;
          count = omega (arith, w.count);
          size = ap suc w.size;
          puts = puts-cons p (take w.more ps) e j w.puts;
          within = w.within;
          given = w.given ∙ joined_assoc c (carried_in p.bytes) (carried (take w.more ps));
        }

run_sound : (limit at n : ℕ) (c : Record) (ps : List Marked) (f : Form) → In f (run limit at n c ps) → Found limit at n c ps f
run_sound limit at n c [] f w = absurd w
run_sound limit at n c (p ∷ ps) f w =
    go (readable_put p.bytes) (is_final p.bytes) (leb (size_of (adds c p)) limit) refl refl refl w (run_sound limit at (n + 1) (adds c p) ps f)
  where
    go : (t u v : Bool) → readable_put p.bytes ≡ t → is_final p.bytes ≡ u → leb (size_of (adds c p)) limit ≡ v → In f (run limit at n c (p ∷ ps))
        → (In f (run limit at (n + 1) (adds c p) ps) → Found limit at (n + 1) (adds c p) ps f) → Found limit at n c (p ∷ ps) f
    go false u v e j g k ih = absurd (simp e at k)
    go true true true e j g k ih = found_here limit at n c p ps f e j g (simp (e, j, g) at k)
    go true true false e j g k ih = absurd (simp (e, j, g) at k)
    go true false v e j g k ih = found_later limit at n c p ps f e j (ih (simp (e, j) at k))

run_complete : (limit at n : ℕ) (c : Record) (ps : List Marked) (f : Form) (k : ℕ) → f.first ≡ at → f.count ≡ n + k → length (take k ps) ≡ k
    → Puts (take k ps)
    → size_of f.given ≤ limit → f.given ≡ joined c (carried (take k ps)) → In f (run limit at n c ps)
run_complete limit at n c [] f zero a b s w l g = absurd w
run_complete limit at n c [] f (suc k) a b s w l g = absurd w
run_complete limit at n c (p ∷ ps) f zero a b s w l g = absurd w
run_complete limit at n c (p ∷ ps) f (suc k) a b s w l g = go (take k ps) refl (run_complete limit at (n + 1) (adds c p) ps f k a (omega arith))
  where
    go : (r : List Marked) → take k ps ≡ r
        → (length (take k ps) ≡ k → Puts (take k ps) → size_of f.given ≤ limit → f.given ≡ joined (adds c p) (carried (take k ps))
        → In f (run limit at (n + 1) (adds c p) ps))
        → In f (run limit at n c (p ∷ ps))
    go [] e ih =
        let v : Puts (p ∷ []) = rw e at w in
        let z : k ≡ 0 = omega (arith, s, ap length e) in
        let y : f.given ≡ adds c p =
        g ∙ ap (λ (r : List Marked). joined c (joined (carried_in p.bytes) (carried r))) e ∙ ap (joined c) (joined-bare (carried_in p.bytes)) in
        let x : size_of (adds c p) ≤ limit = rw y at l in
        simp (v.0, v.1, le-leb _ _ x) (inl (form-eq f at (n + 1) (adds c p) a (omega arith) y))
    go (q ∷ r) e ih =
        let v : Puts (p ∷ q ∷ r) = rw e at w in
        simp (v.0, v.1) (ih (omega arith) (rw e v.2) l (g ∙ sym (joined_assoc c (carried_in p.bytes) (carried (take k ps)))))

-- ---- all the forms

-- the test says what `Starts` says of a first packet
may_starts : (b e a t : Bool) → not b && (not e && (a && not t)) ≡ true → (b ≡ false) × (e ≡ false) × (a ≡ true) × (t ≡ false)
may_starts false false true false w = (refl, refl, refl, refl)
may_starts false false true true w = absurd (false≢true w)
may_starts false false false t w = absurd (false≢true w)
may_starts false true a t w = absurd (false≢true w)
may_starts true e a t w = absurd (false≢true w)

starts_may : (p : Marked) → Starts (p ∷ []) → may_begin p ≡ true
starts_may p w = simp (w.0, w.1, w.2, w.3)

begins_in : (f : Form) (t : Bool) (l : List Form) → In f (pick t l []) → (t ≡ true) × In f l
begins_in f true l w = (refl, w)
begins_in f false l w = absurd w

starts-take : (k : ℕ) (p : Marked) (ps : List Marked) → Puts (take k (p ∷ ps)) → Starts (p ∷ []) → Starts (take k (p ∷ ps))
starts-take zero p ps w s = absurd w
starts-take (suc k) p ps w s = s

take-starts : (k : ℕ) (p : Marked) (ps : List Marked) → Puts (take k (p ∷ ps)) → Starts (take k (p ∷ ps)) → Starts (p ∷ [])
take-starts zero p ps w s = absurd w
take-starts (suc k) p ps w s = s

drop-next : (whole : List Marked) (i : ℕ) (p : Marked) (ps : List Marked) → drop i whole ≡ p ∷ ps → drop (i + 1) whole ≡ ps
drop-next whole i p ps d = sym (drop-drop 1 i whole) ∙ ap (drop 1) d

pub forms-sound : (limit : ℕ) (whole ps : List Marked) (i : ℕ) → drop i whole ≡ ps → (f : Form) → In f (forms limit i ps) → IsForm limit whole f
forms-sound limit whole [] i d f w = absurd w
forms-sound limit whole (p ∷ ps) i d f w =
    go (in_append f (begins limit i p ps) (forms limit (i + 1) ps) w) (forms-sound limit whole ps (i + 1) (drop-next whole i p ps d) f)
  where
    go : In f (begins limit i p ps) ⊎ In f (forms limit (i + 1) ps) → (In f (forms limit (i + 1) ps) → IsForm limit whole f) → IsForm limit whole f
    go (inr k) ih = ih k
    go (inl k) ih =
        let (b, m) = begins_in f (may_begin p) (run limit i 0 bare (p ∷ ps)) k in
        let s : Starts (p ∷ []) =
        may_starts (busy p.before.opened) p.before.ended (admits p.before p.bytes) (is_trailed p.before p.bytes) b in
        let r = run_sound limit i 0 bare (p ∷ ps) f m in
        let n : f.count ≡ r.more = omega (arith, r.count) in
        let runs : run_of whole f ≡ take r.more (p ∷ ps) = ap₂ (λ (x y : ℕ). take x (drop y whole)) n r.first ∙ ap (take r.more) d in
        record {
          there = ap length runs ∙ r.size ∙ sym n;
          one = subst (λ (l : List Marked). OnePut limit l f.given) (sym runs)
              (record { starts = starts-take r.more p ps r.puts s; puts = r.puts; within = r.within; is = r.given });
        }

pub forms_complete : (limit : ℕ) (whole : List Marked) (f : Form) → IsForm limit whole f → (ps : List Marked) (i : ℕ) → drop i whole ≡ ps
    → i ≤ f.first → In f (forms limit i ps)
forms_complete limit whole f w [] i d h =
    let n : f.first ≡ i + (f.first - i) = omega arith in
    let e : drop f.first whole ≡ [] =
    ap (λ (x : ℕ). drop x whole) n ∙ sym (drop-drop (f.first - i) i whole) ∙ ap (drop (f.first - i)) d ∙ drop-nil (f.first - i) in
    let r : run_of whole f ≡ [] = ap (take f.count) e ∙ take-nil f.count in
    absurd (subst Puts r w.one.puts)
forms_complete limit whole f w (p ∷ ps) i d h = go (eqb i f.first) refl (forms_complete limit whole f w ps (i + 1) (drop-next whole i p ps d))
  where
    go : (t : Bool) → eqb i f.first ≡ t → (i + 1 ≤ f.first → In f (forms limit (i + 1) ps)) → In f (forms limit i (p ∷ ps))
    go false e ih = in_right f (begins limit i p ps) (forms limit (i + 1) ps) (ih (omega (arith, eqb-false i f.first e)))
    go true e ih =
        let q : f.first ≡ i = sym (eqb-true _ _ e) in
        let runs : run_of whole f ≡ take f.count (p ∷ ps) = ap (λ (x : ℕ). take f.count (drop x whole)) q ∙ ap (take f.count) d in
        let one : OnePut limit (take f.count (p ∷ ps)) f.given = subst (λ (l : List Marked). OnePut limit l f.given) runs w.one in
        let m : In f (run limit i 0 bare (p ∷ ps)) =
        run_complete limit i 0 bare (p ∷ ps) f f.count q (omega arith) (ap length (sym runs) ∙ w.there) one.puts one.within one.is in
        in_left f (begins limit i p ps) (forms limit (i + 1) ps)
        (subst (λ (t : Bool). In f (pick t (run limit i 0 bare (p ∷ ps)) []))
        (sym (starts_may p (take-starts f.count p ps one.puts one.starts))) m)

-- ---- a list of packets has one list of forms: `Exactly` leaves no choice

-- a form takes a packet at least
takes_one : {limit : ℕ} {ps : List Marked} {f : Form} → IsForm limit ps f → 0 < f.count
takes_one {limit} {ps} {f} w = go (run_of ps f) refl
  where
    go : (l : List Marked) → run_of ps f ≡ l → 0 < f.count
    go [] e = absurd (subst Puts e w.one.puts)
    go (p ∷ l) e = omega (arith, ap length e, w.there)

-- whatever is in a list that lies apart begins late enough
begins-late : (n : ℕ) (l : List Form) (f : Form) → Apart n l → In f l → n ≤ f.first
begins-late n [] f w k = absurd k
begins-late n (g ∷ l) f w (inl e) = omega (arith, w.0, ap (λ (x : Form). x.first) e)
begins-late n (g ∷ l) f w (inr k) = omega (arith, w.0, begins-late (g.first + g.count) l f w.1 k)

-- where the first of two lists are in each other, they are the same
same_first : (f g : Form) (k l : List Form) → 0 < f.count → 0 < g.count → Apart (f.first + f.count) k → Apart (g.first + g.count) l
    → In f (g ∷ l) → In g (f ∷ k) → f ≡ g
same_first f g k l p q a b (inl e) j = e
same_first f g k l p q a b (inr i) (inl e) = sym e
same_first f g k l p q a b (inr i) (inr j) =
    absurd (omega (arith, begins-late (g.first + g.count) l f b i, begins-late (f.first + f.count) k g a j))

-- what is in a list and begins after its first is in the rest
in_rest : (f h : Form) (l : List Form) → f.first < h.first → In h (f ∷ l) → In h l
in_rest f h l w (inl e) = absurd (omega (arith, ap (λ (x : Form). x.first) e))
in_rest f h l w (inr k) = k

only : (k l : List Form) (m n : ℕ) → Apart m k → Apart n l → ((f : Form) → In f k → 0 < f.count) → ((f : Form) → In f l → 0 < f.count)
    → ((f : Form) → In f k → In f l) → ((f : Form) → In f l → In f k) → k ≡ l
only [] [] m n a b p q i j = refl
only [] (g ∷ l) m n a b p q i j = absurd (j g (inl refl))
only (f ∷ k) [] m n a b p q i j = absurd (i f (inl refl))
only (f ∷ k) (g ∷ l) m n a b p q i j =
    let e : f ≡ g = same_first f g k l (p f (inl refl)) (q g (inl refl)) a.1 b.1 (i f (inl refl)) (j g (inl refl)) in
    let d : f.first ≡ g.first = ap (λ (x : Form). x.first) e in
    let r : k ≡ l = only k l (f.first + f.count) (g.first + g.count) a.1 b.1 (λ h w. p h (inr w)) (λ h w. q h (inr w))
    (λ h w. in_rest g h l (omega (arith, begins-late (f.first + f.count) k h a.1 w, p f (inl refl))) (i h (inr w)))
    (λ h w. in_rest f h k (omega (arith, begins-late (g.first + g.count) l h b.1 w, q g (inl refl))) (j h (inr w))) in
    ap₂ (λ (x : Form) (y : List Form). x ∷ y) e r

-- Said for whoever reads `Exactly`, and cited nowhere.
pub exactly_one : OneList
exactly_one limit ps rs qs a b =
    let m : (f : Form) → In f a.forms → 0 < f.count = λ f w. takes_one (a.each f w) in
    let n : (f : Form) → In f b.forms → 0 < f.count = λ f w. takes_one (b.each f w) in
    a.records
    ∙ ap (map (λ (f : Form). f.given)) (only a.forms b.forms 0 0 a.apart b.apart m n (λ f w. b.all f (a.each f w))
    (λ f w. a.all f (b.each f w)))
    ∙ sym b.records
