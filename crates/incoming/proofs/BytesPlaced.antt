-- Bytes that stand in the packet store already, taken at once, are the same bytes taken one by one: each is written over itself. Assumes
-- nothing.
use mathlib.Core.Path.{◌≡◌, refl, sym, ap, subst, ◌∙◌}
use mathlib.Core.List.{List, [], ◌∷◌, ◌++◌}
use mathlib.Core.Bool.{Bool, true, false}
use Prim.Native.Nat.{ℕ, zero, suc, ◌+◌, ◌-◌, ◌≤◌, ◌<◌}
use native.Mathlib.Omega.{arith}
use lib.ListN.{length, length-set, get_or, set, take, drop, length-drop}
use lib.Dec.{ltb, leb}
use lib.Seq.{drop-cons, set-get_or, take_all, take-set-le, take-suc-set, get_or-take, get_or-set_same, get_or-drop, sets, length-sets}
use borrow.Author.Tests.{ltb-true, ltb-false, leb-true, leb-false}
use Rattle.base.specs.Pick.{pick}
use Rattle.base.specs.Bytes.{be16}
use Rattle.incoming.specs.declared.frame.Frame.{Frame}
use Rattle.incoming.specs.declared.frame.Frame.TheVariants.{More, Whole, Short}
use Rattle.incoming.specs.Frame.{Frames, frames, frames_at, framed, frame_end, placed_in, coming}
use Rattle.packet.proofs.TextForms.{octets-take}
use Rattle.incoming.proofs.Frames.{Octets, frame_prefix}

-- ---- where the packet ends

-- the packet in the store `p` ends at `s` at the earliest, if one byte more than `b` is taken
pub record EndsAt (p : List ℕ) (b s : ℕ) : Type 0 where
  pub prefix : 3 ≤ s
  pub byte : b < s
  pub field : be16 p 1 ≤ s
  pub least : (m : ℕ) → 3 ≤ m → b < m → be16 p 1 ≤ m → s ≤ m

-- what has come once `k` bytes are taken
abbrev framed_at : ℕ → ℕ → Frame → List ℕ → Frames
framed_at b t f p = frames (record { begun = b; taken = t; frame = f }) p

same : (p : List ℕ) (b c t u : ℕ) (f : Frame) → b ≡ c → t ≡ u → framed_at b t f p ≡ framed_at c u f p
same p b c t u f e g = rw (e, g)

-- how a packet ends
abbrev pub ending_of : List ℕ → Frame
ending_of p = pick (ltb (be16 p 1) 3) Short Whole

-- the frame's test after one byte more, by whether the packet ends there
data Test (p : List ℕ) (b s : ℕ) : Type 0 where
  on : frame_end p (b + 1) ≡ More → EndsAt p (b + 1) s → Test p b s
  ended : frame_end p (b + 1) ≡ ending_of p → s ≡ b + 1 → Test p b s

test : (p : List ℕ) (b s : ℕ) → EndsAt p b s → Test p b s
unfolding frame_end
test p b s e = go (ltb (b + 1) 3) (ltb (be16 p 1) 3) (leb (be16 p 1) (b + 1)) refl refl refl
  where
    go : (u v w : Bool) → ltb (b + 1) 3 ≡ u → ltb (be16 p 1) 3 ≡ v → leb (be16 p 1) (b + 1) ≡ w → Test p b s
    go true v w h k l =
        on (simp h)
        (record {
          prefix = e.prefix;
          byte = omega (arith, ltb-true (b + 1) 3 h, e.prefix);
          field = e.field;
          least = λ m x y z. e.least m x (omega (arith, y)) z;
        })
    go false true w h k l =
        ended (simp (h, k)) (omega (arith, e.byte, e.least (b + 1) (ltb-false (b + 1) 3 h) (omega arith) (omega (arith, ltb-true (be16 p 1) 3 k, ltb-false (b + 1) 3 h))))
    go false false true h k l =
        ended (simp (h, k, l)) (omega (arith, e.byte, e.least (b + 1) (ltb-false (b + 1) 3 h) (omega arith) (leb-true (be16 p 1) (b + 1) l)))
    go false false false h k l =
        on (simp (h, k, l))
        (record {
          prefix = e.prefix;
          byte = omega (arith, leb-false (be16 p 1) (b + 1) l, e.field);
          field = e.field;
          least = λ m x y z. e.least m x (omega (arith, y)) z;
        })

-- ---- byte by byte

-- a byte that stands there
step : (p : List ℕ) (b t k : ℕ) → b < length p
    → framed p b t (placed_in p b (suc k)) ≡ frames_at (frame_end p (b + 1)) (b + 1) (t + 1) p (framed p (b + 1) (t + 1) (placed_in p (b + 1) k))
unfolding framed
step p b t k h =
    let next : suc b ≡ b + 1 = omega arith in
    rw (drop-cons p b 0 h, set-get_or p b 0, next)

-- a byte after which the packet goes on
step_on : (p : List ℕ) (b t k : ℕ) → b < length p → frame_end p (b + 1) ≡ More
    → framed p b t (placed_in p b (suc k)) ≡ framed p (b + 1) (t + 1) (placed_in p (b + 1) k)
step_on p b t k h m =
    step p b t k h ∙ ap (λ (x : Frame). frames_at x (b + 1) (t + 1) p (framed p (b + 1) (t + 1) (placed_in p (b + 1) k))) m

-- bytes after which the packet goes on
pub goes_on : (p : List ℕ) (k b t s : ℕ) → EndsAt p b s → b + k < s → b + k ≤ length p
    → framed p b t (placed_in p b k) ≡ framed_at (b + k) (t + k) More p
unfolding framed
goes_on p zero b t s e h l = same p b (b + 0) t (t + 0) More (omega arith) (omega arith)
goes_on p (suc k) b t s e h l = by (test p b s e) (λ f. goes_on p k (b + 1) (t + 1) s f (omega arith) (omega arith))
  where
    by : Test p b s → (EndsAt p (b + 1) s → framed p (b + 1) (t + 1) (placed_in p (b + 1) k) ≡ framed_at (b + 1 + k) (t + 1 + k) More p)
        → framed p b t (placed_in p b (suc k)) ≡ framed_at (b + suc k) (t + suc k) More p
    by (on m f) rest =
        step_on p b t k (omega arith) m ∙ rest f
        ∙ same p (b + 1 + k) (b + suc k) (t + 1 + k) (t + suc k) More (omega arith) (omega arith)
    by (ended m f) rest = absurd (omega (arith, h, f))

-- how the packet ends, whatever would follow
at_end : (p : List ℕ) (b t : ℕ) (rest : Frames) → frames_at (ending_of p) b t p rest ≡ framed_at b t (ending_of p) p
at_end p b t rest = go (ltb (be16 p 1) 3)
  where
    go : (u : Bool) → frames_at (pick u Short Whole) b t p rest ≡ framed_at b t (pick u Short Whole) p
    go true = refl
    go false = refl

-- bytes with which the packet ends
pub ends_there : (p : List ℕ) (k b t s : ℕ) → EndsAt p b s → s ≤ b + k → b + k ≤ length p
    → framed p b t (placed_in p b k) ≡ framed_at s (t + (s - b)) (ending_of p) p
ends_there p zero b t s e h l = absurd (omega (arith, e.byte, h))
ends_there p (suc k) b t s e h l = by (test p b s e) (λ f. ends_there p k (b + 1) (t + 1) s f (omega arith) (omega arith))
  where
    by : Test p b s
        → (EndsAt p (b + 1) s → framed p (b + 1) (t + 1) (placed_in p (b + 1) k) ≡ framed_at s (t + 1 + (s - (b + 1))) (ending_of p) p)
        → framed p b t (placed_in p b (suc k)) ≡ framed_at s (t + (s - b)) (ending_of p) p
    by (on m f) rest =
        step_on p b t k (omega arith) m ∙ rest f
        ∙ same p s s (t + 1 + (s - (b + 1))) (t + (s - b)) (ending_of p) refl (omega (arith, f.byte))
    by (ended m f) rest =
        step p b t k (omega arith)
        ∙ ap (λ (x : Frame). frames_at x (b + 1) (t + 1) p (framed p (b + 1) (t + 1) (placed_in p (b + 1) k))) m
        ∙ at_end p (b + 1) (t + 1) (framed p (b + 1) (t + 1) (placed_in p (b + 1) k))
        ∙ same p (b + 1) s (t + 1) (t + (s - b)) (ending_of p) (sym f) (omega (arith, f))

-- a store that ends at `e`, before all `n` bytes, has as many as lie before its end
pub up_to : (p : List ℕ) (b n e : ℕ) → b ≤ e → e ≤ length p → e ≤ b + n → (e < length p → e ≡ b + n) → placed_in p b n ≡ placed_in p b (e - b)
up_to p b n e h l m k = by (ltb e (length p)) refl
  where
    by : (u : Bool) → ltb e (length p) ≡ u → placed_in p b n ≡ placed_in p b (e - b)
    by true w =
        let i = k (ltb-true e (length p) w) in
        let j : n ≡ e - b = omega (arith, i) in
        ap (placed_in p b) j
    by false w =
        let i = ltb-false e (length p) w in
        let d = length-drop b p in
        take_all n (drop b p) (omega (arith, i, d)) ∙ sym (take_all (e - b) (drop b p) (omega (arith, i, d)))

-- ---- bytes behind bytes

-- what more bytes come to
abbrev pub then_all : Frame → Frames → List ℕ → Frames
then_all More f ys = framed f.packet f.result.begun f.result.taken ys
then_all Whole f ys = f
then_all Short f ys = f

pub in_turn : (p : List ℕ) (b t : ℕ) (xs ys : List ℕ) → framed p b t (xs ++ ys) ≡ then_all (framed p b t xs).result.frame (framed p b t xs) ys
unfolding framed
in_turn p b t [] ys = refl
in_turn p b t (x ∷ xs) ys =
    by (frame_end (set p b x) (b + 1)) (framed (set p b x) (b + 1) (t + 1) (xs ++ ys)) (framed (set p b x) (b + 1) (t + 1) xs)
    (in_turn (set p b x) (b + 1) (t + 1) xs ys)
  where
    by : (f : Frame) (y z : Frames) → y ≡ then_all z.result.frame z ys
        → frames_at f (b + 1) (t + 1) (set p b x) y
        ≡ then_all (frames_at f (b + 1) (t + 1) (set p b x) z).result.frame (frames_at f (b + 1) (t + 1) (set p b x) z) ys
    by More y z h = h
    by Whole y z h = refl
    by Short y z h = refl

-- `t` bytes were taken before
abbrev pub later : ℕ → Frames → Frames
later t f = frames (record { begun = f.result.begun; taken = t + f.result.taken; frame = f.result.frame }) f.packet

pub taken-later : (p : List ℕ) (b t u : ℕ) (xs : List ℕ) → framed p b (t + u) xs ≡ later t (framed p b u xs)
unfolding framed
taken-later p b t u [] = refl
taken-later p b t u (x ∷ xs) =
    by (frame_end (set p b x) (b + 1)) (set p b x) (framed (set p b x) (b + 1) (t + u + 1) xs) (framed (set p b x) (b + 1) (u + 1) xs)
    (ap (λ (n : ℕ). framed (set p b x) (b + 1) n xs) (omega arith) ∙ taken-later (set p b x) (b + 1) t (u + 1) xs)
  where
    by : (f : Frame) (q : List ℕ) (y z : Frames) → y ≡ later t z
        → frames_at f (b + 1) (t + u + 1) q y ≡ later t (frames_at f (b + 1) (u + 1) q z)
    by More q y z h = h
    by Whole q y z h = same q (b + 1) (b + 1) (t + u + 1) (t + (u + 1)) Whole refl (omega arith)
    by Short q y z h = same q (b + 1) (b + 1) (t + u + 1) (t + (u + 1)) Short refl (omega arith)

-- as many bytes are taken as the packet has more
pub counts : (p : List ℕ) (b t : ℕ) (xs : List ℕ) → (framed p b t xs).result.begun + t ≡ (framed p b t xs).result.taken + b
unfolding framed
counts p b t [] = omega arith
counts p b t (x ∷ xs) =
    by (frame_end (set p b x) (b + 1)) (set p b x) (framed (set p b x) (b + 1) (t + 1) xs) (counts (set p b x) (b + 1) (t + 1) xs)
  where
    by : (f : Frame) (q : List ℕ) (z : Frames) → z.result.begun + (t + 1) ≡ z.result.taken + (b + 1)
        → (frames_at f (b + 1) (t + 1) q z).result.begun + t ≡ (frames_at f (b + 1) (t + 1) q z).result.taken + b
    by More q z h = omega (arith, h)
    by Whole q z h = omega arith
    by Short q z h = omega arith

-- ---- bytes that a host has put there

-- what stands in front of them stays
pub front-stays : (xs p : List ℕ) (n b : ℕ) → n ≤ b → take n (sets p b xs) ≡ take n p
front-stays [] p n b h = refl
front-stays (x ∷ xs) p n b h = front-stays xs (set p b x) n (suc b) (omega arith) ∙ take-set-le n p b x h

byte-stays : (xs p : List ℕ) (k b : ℕ) → k < b → get_or (sets p b xs) k 0 ≡ get_or p k 0
byte-stays xs p k b h =
    sym (get_or-take b (sets p b xs) k 0 h)
    ∙ ap (λ (l : List ℕ). get_or l k 0) (front-stays xs p b b (omega arith))
    ∙ get_or-take b p k 0 h

-- the first of them
first_byte : (x : ℕ) (xs p : List ℕ) (b : ℕ) → b < length p → get_or (sets p b (x ∷ xs)) b 0 ≡ x
first_byte x xs p b h = byte-stays xs (set p b x) b (suc b) (omega arith) ∙ get_or-set_same p b x 0 h

-- they are found where they were put
pub placed-there : (xs p : List ℕ) (b : ℕ) → b + length xs ≤ length p → placed_in (sets p b xs) b (length xs) ≡ xs
placed-there [] p b h = refl
placed-there (x ∷ xs) p b h =
    let k : b < length (sets p b (x ∷ xs)) = omega (arith, length-sets p b (x ∷ xs)) in
    ap (take (suc (length xs))) (drop-cons (sets p b (x ∷ xs)) b 0 k)
    ∙ ap (λ (y : ℕ). y ∷ placed_in (sets p b (x ∷ xs)) (suc b) (length xs)) (first_byte x xs p b (omega arith))
    ∙ ap (λ (l : List ℕ). x ∷ l) (placed-there xs (set p b x) (suc b) (omega (arith, length-set p b x)))

-- ---- bytes depend on those of the packet that stand in front of them, and on nothing behind

-- two stores are as long, and the same up to where the packet has come
pub record SameFront (f g : Frames) : Type 0 where
  pub result : g.result ≡ f.result
  pub front : take f.result.begun g.packet ≡ take f.result.begun f.packet
  pub long : length g.packet ≡ length f.packet

-- one byte more
one_more : (p q : List ℕ) (b x : ℕ) → take b q ≡ take b p → length q ≡ length p → take (suc b) (set q b x) ≡ take (suc b) (set p b x)
one_more p q b x h l = by (ltb b (length p)) refl
  where
    by : (u : Bool) → ltb b (length p) ≡ u → take (suc b) (set q b x) ≡ take (suc b) (set p b x)
    by true w =
        let k = ltb-true b (length p) w in
        take-suc-set q b x (omega (arith, k, l)) ∙ ap (λ (y : List ℕ). y ++ (x ∷ [])) h ∙ sym (take-suc-set p b x k)
    by false w =
        let k = ltb-false b (length p) w in
        let same : q ≡ p = sym (take_all b q (omega (arith, k, l))) ∙ h ∙ take_all b p k in
        ap (λ (y : List ℕ). take (suc b) (set y b x)) same

pub front_alone : (xs p q : List ℕ) (b t : ℕ) → take b q ≡ take b p → length q ≡ length p → SameFront (framed p b t xs) (framed q b t xs)
unfolding framed
front_alone [] p q b t h l = record { result = refl; front = h; long = l }
front_alone (x ∷ xs) p q b t h l =
    let next : suc b ≡ b + 1 = omega arith in
    let front : take (b + 1) (set q b x) ≡ take (b + 1) (set p b x) =
    subst (λ (n : ℕ). take n (set q b x) ≡ take n (set p b x)) next (one_more p q b x h l) in
    let long : length (set q b x) ≡ length (set p b x) = length-set q b x ∙ l ∙ sym (length-set p b x) in
    let test : frame_end (set q b x) (b + 1) ≡ frame_end (set p b x) (b + 1) =
    frame_prefix (set q b x) (b + 1) ∙ ap (λ (y : List ℕ). frame_end y (b + 1)) front ∙ sym (frame_prefix (set p b x) (b + 1)) in
    subst (λ (f : Frame). SameFront (framed p b t (x ∷ xs)) (frames_at f (b + 1) (t + 1) (set q b x) (framed (set q b x) (b + 1) (t + 1) xs)))
    (sym test)
    (by (frame_end (set p b x) (b + 1)) front long (front_alone xs (set p b x) (set q b x) (b + 1) (t + 1) front long))
  where
    by : (f : Frame) → take (b + 1) (set q b x) ≡ take (b + 1) (set p b x) → length (set q b x) ≡ length (set p b x)
        → SameFront (framed (set p b x) (b + 1) (t + 1) xs) (framed (set q b x) (b + 1) (t + 1) xs)
        → SameFront (frames_at f (b + 1) (t + 1) (set p b x) (framed (set p b x) (b + 1) (t + 1) xs))
        (frames_at f (b + 1) (t + 1) (set q b x) (framed (set q b x) (b + 1) (t + 1) xs))
    by More fr lo r = r
    by Whole fr lo r = record { result = refl; front = fr; long = lo }
    by Short fr lo r = record { result = refl; front = fr; long = lo }

-- ---- the bytes that come are bytes

octets-drop : (b : ℕ) (p : List ℕ) → Octets p → Octets (drop b p)
octets-drop b p o i = rw (get_or-drop b p i 0) (o (b + i))

octets-append : (xs ys : List ℕ) → Octets xs → Octets ys → Octets (xs ++ ys)
octets-append [] ys o r i = r i
octets-append (x ∷ xs) ys o r zero = o 0
octets-append (x ∷ xs) ys o r (suc i) = octets-append xs ys (λ j. o (suc j)) r i

pub octets-coming : (p : List ℕ) (b n : ℕ) (i : List ℕ) → Octets p → Octets i → Octets (coming p b n i)
octets-coming p b n i o r = octets-append (placed_in p b n) i (octets-take (drop b p) n (octets-drop b p o)) r
