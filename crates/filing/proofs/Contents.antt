-- The payload of an event: its parts laid one behind the other, how long it is, what each test of the writer says, and what is read back. Assumes
-- nothing.
use mathlib.Core.Path.{◌≡◌, refl, sym, ap, ap₂, ◌∙◌}
use mathlib.Core.Bool.{Bool, true, false}
use mathlib.Core.List.{List, [], ◌∷◌, ◌++◌, append_assoc}
use Prim.Native.Nat.{ℕ, ◌+◌, ◌-◌, ◌%◌, ◌≤◌}
use native.Mathlib.Omega.{arith}
use lib.Dec.{leb}
use lib.ListN.{length, take, drop, length-append, length-take}
use lib.Seq.{paste}
use borrow.Author.Tests.{le-ltb, lt-ltb, le-leb, lt-leb, leb-true, leb-false}
use Rattle.archive.specs.Writing.{writing, front}
use Rattle.std.specs.Prelude.{Ok, Err}
use Rattle.archive.specs.declared.block.WriteError.TheVariants.{Short, TooLong}
use Rattle.archive.proofs.Laid.{front-more}
use Rattle.filing.specs.Entries.{LogEntry}
use Rattle.filing.specs.Kinds.{check_pair, open_row, entry_in}
use Rattle.archive.specs.Block.{same}
use Rattle.filing.specs.Contents.{front_of, payload_for, right_parts, content_written, filled_row, content_by, entry_by}
use Rattle.filing.specs.Claims.{EventTells, NotedBack}
use Rattle.filing.specs.declared.content.Event.{Event}
use Rattle.filing.specs.declared.content.Event.TheVariants.{Opened, Received, Broken, Replied, Answered, Given, Checked, Challenged, Closed, Filing, Failed, Ended}

-- ---- room

pub room-four : (total row a b c : ℕ) → row ≤ total → a ≤ total - row → b ≤ total - row - a
    → leb c (total - row - a - b) ≡ leb (row + (a + (b + c))) total
room-four total row a b c h k l = go (leb c (total - row - a - b)) refl
  where
    go : (x : Bool) → leb c (total - row - a - b) ≡ x → x ≡ leb (row + (a + (b + c))) total
    go true e = sym (le-leb (row + (a + (b + c))) total (omega (arith, leb-true c (total - row - a - b) e)))
    go false e = sym (lt-leb (row + (a + (b + c))) total (omega (arith, leb-false c (total - row - a - b) e)))

-- ---- four parts at the front of a store

pub four-laid : (s s₁ s₂ s₃ s₄ p q r t : List ℕ) → length p + (length q + (length r + length t)) ≤ length s → s₁ ≡ paste s 0 p (length p)
    → s₂ ≡ paste s₁ (length p) q (length q) → s₃ ≡ paste s₂ (length p + length q) r (length r)
    → s₄ ≡ paste s₃ (length p + length q + length r) t (length t) → s₄ ≡ front (p ++ (q ++ (r ++ t))) s
four-laid s s₁ s₂ s₃ s₄ p q r t room e₁ e₂ e₃ e₄ =
    let m = length p in
    let n = length q in
    let k = length r in
    let l = length t in
    let z : 0 + m ≡ m = omega arith in
    let a : s₁ ≡ p ++ drop m s = e₁ ∙ front-more [] s s p 0 m refl refl refl (omega arith) ∙ ap (λ (i : ℕ). p ++ drop i s) z in
    let b : s₂ ≡ (p ++ q) ++ drop (m + n) s = e₂ ∙ front-more p s s₁ q m n a refl refl (omega arith) in
    let lb : length (p ++ q) ≡ m + n = length-append p q in
    let c : s₃ ≡ ((p ++ q) ++ r) ++ drop (m + n + k) s = e₃ ∙ front-more (p ++ q) s s₂ r (m + n) k b lb refl (omega arith) in
    let lc : length ((p ++ q) ++ r) ≡ m + n + k = omega (arith, length-append (p ++ q) r, lb) in
    let d : s₄ ≡ (((p ++ q) ++ r) ++ t) ++ drop (m + n + k + l) s =
    e₄ ∙ front-more ((p ++ q) ++ r) s s₃ t (m + n + k) l c lc refl (omega arith) in
    let j : ((p ++ q) ++ r) ++ t ≡ p ++ (q ++ (r ++ t)) = append_assoc (p ++ q) r t ∙ append_assoc p q (r ++ t) in
    let lx : m + n + k + l ≡ length (p ++ (q ++ (r ++ t))) = omega (arith, ap length j, length-append ((p ++ q) ++ r) t, lc) in
    d ∙ ap₂ (λ (u : List ℕ) (i : ℕ). u ++ drop i s) j lx

-- ---- what an event's payload begins with

-- it is as long whatever the first part is
front-size : (e : Event) (k : ℕ) → length (front_of e k) ≡ length (front_of e 0)
front-size (Opened n f) k = refl
front-size Received k = refl
front-size Broken k = refl
front-size Replied k = refl
front-size (Answered code) k = refl
front-size (Given body) k = refl
front-size (Checked c) k = refl
front-size Challenged k = refl
front-size Closed k = refl
front-size Filing k = refl
front-size Failed k = refl
front-size (Ended n) k = refl

-- it is the front of its row
front-taken : (e : Event) (k : ℕ) → take (length (front_of e 0)) (filled_row (front_of e k)) ≡ front_of e k
unfolding open_row check_pair
front-taken (Opened n f) k = refl
front-taken Received k = refl
front-taken Broken k = refl
front-taken Replied k = refl
front-taken (Answered code) k = refl
front-taken (Given body) k = refl
front-taken (Checked c) k = refl
front-taken Challenged k = refl
front-taken Closed k = refl
front-taken Filing k = refl
front-taken Failed k = refl
front-taken (Ended n) k = refl

-- an object's headers are counted in two bytes, and nothing else is counted
front-mod : (e : Event) (m n : ℕ) → right_parts e m n ≡ true → front_of e (m % 65536) ≡ front_of e m
front-mod (Opened o f) m n h = refl
front-mod Received m n h = refl
front-mod Broken m n h = refl
front-mod Replied m n h = refl
front-mod (Answered code) m n h = refl
front-mod (Given body) m n h =
    let k : m % 65536 ≡ m = omega (arith, leb-true m 65535 h) in
    ap (λ (i : ℕ). front_of (Given body) i) k
front-mod (Checked c) m n h = refl
front-mod Challenged m n h = refl
front-mod Closed m n h = refl
front-mod Filing m n h = refl
front-mod Failed m n h = refl
front-mod (Ended o) m n h = refl

pub taken_most : (n : ℕ) (l : List ℕ) → length (take n l) ≤ n
taken_most n l = simp length-take (omega arith)

-- ---- the writer

module _ (s : List ℕ) (e : Event) (a b c : List ℕ) where
  size : ℕ
  size = length (front_of e 0) + (length a + (length b + length c))

  payload-size : length (payload_for e a b c) ≡ size
  unfolding payload_for size
  payload-size =
      omega (
        arith,
        length-append (front_of e (length a)) (a ++ (b ++ c)),
        length-append a (b ++ c),
        length-append b c,
        front-size e (length a),
      )

  pub content-short : leb (length (front_of e 0) + (length a + (length b + length c))) (length s) ≡ false → writing (Err Short) s ≡ content_written s e a b c
  unfolding content_written size
  content-short h =
      rw (lt-ltb (length s) (length (payload_for e a b c)) (omega (arith, payload-size, leb-false size (length s) h))) refl

  pub content-long : leb (length (front_of e 0) + (length a + (length b + length c))) (length s) ≡ true → right_parts e (length a) (length b) ≡ false
      → writing (Err TooLong) s ≡ content_written s e a b c
  unfolding content_written size
  content-long h r =
      rw (le-ltb (length s) (length (payload_for e a b c)) (omega (arith, payload-size, leb-true size (length s) h)), r) refl

  pub content-done : (n : ℕ) (row s₁ : List ℕ) → n ≡ length (front_of e 0)
      → leb (length (front_of e 0) + (length a + (length b + length c))) (length s) ≡ true
      → right_parts e (length a) (length b) ≡ true → row ≡ filled_row (front_of e (length a % 65536))
      → s₁ ≡ front (take (n - 0) (drop 0 row) ++ (a ++ (b ++ c))) s
      → writing (Ok (n + length a + length b + length c)) s₁ ≡ content_written s e a b c
  unfolding content_written size payload_for
  content-done n row s₁ en h r er es =
      let i : n - 0 ≡ length (front_of e 0) = omega arith in
      let t : take (n - 0) (drop 0 row) ≡ front_of e (length a) =
      ap₂ (λ (k : ℕ) (l : List ℕ). take k l) i er ∙ front-taken e (length a % 65536) ∙ front-mod e (length a) (length b) r in
      let x : s₁ ≡ front (payload_for e a b c) s = es ∙ ap (λ (l : List ℕ). front (l ++ (a ++ (b ++ c))) s) t in
      let y : n + length a + length b + length c ≡ length (payload_for e a b c) = omega (arith, payload-size) in
      rw (le-ltb (length s) (length (payload_for e a b c)) (omega (arith, payload-size, leb-true size (length s) h)), r)
      (ap₂ (λ (k : ℕ) (l : List ℕ). writing (Ok k) l) y x)

-- ---- what is read back

pub event-tells : EventTells
unfolding entry_in same payload_for open_row check_pair
event-tells (Opened n f) t a b c = refl
event-tells Received t a b c = refl
event-tells Broken t a b c = refl
event-tells Replied t a b c = refl
event-tells (Answered code) t a b c = refl
event-tells (Given body) t a b c = refl
event-tells (Checked k) t a b c = go k.right refl
  where
    go : (r : Bool) → k.right ≡ r → entry_in (content_by (Checked k) t a b c) ≡ entry_by (Checked k) (a ++ (b ++ c))
    go true e = rw e refl
    go false e = rw e refl
event-tells Challenged t a b c = refl
event-tells Closed t a b c = refl
event-tells Filing t a b c = refl
event-tells Failed t a b c = refl
event-tells (Ended n) t a b c = refl

pub noted_back : NotedBack
noted_back [] = refl
noted_back (n ∷ l) =
    ap₂ (λ (x y : List LogEntry). x ++ y) (event-tells n.event n.clock n.first n.second n.third) (noted_back l)
