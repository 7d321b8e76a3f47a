-- The packet store and the journal's list of bytes go together: what `framed` does to a store, `read_up` does to a list. Both ask the same
-- of the bytes so far, and a packet that goes on is not at 65,535 bytes yet. Assumes nothing.
use mathlib.Core.Path.{◌≡◌, refl, sym, ap, ◌∙◌}
use mathlib.Core.List.{List, [], ◌∷◌, ◌++◌}
use mathlib.Core.Bool.{Bool, true, false, ◌&&◌, ◌||◌, not}
use Prim.Native.Nat.{ℕ, zero, suc, ◌+◌, ◌≤◌, ◌<◌}
use native.Mathlib.Omega.{arith}
use native.Mathlib.Numerals.{add-one}
use lib.ListN.{length, length-set, get_or, take, set}
use lib.Seq.{take-suc-set, length-take-le, get_or-take}
use lib.Dec.{ltb, leb}
use borrow.Author.Tests.{ltb-true, ltb-false, leb-false}
use Rattle.base.specs.Pick.{pick}
use Rattle.base.specs.Bytes.{be16}
pub use Rattle.packet.proofs.HeaderBytes.{Octets}
use Rattle.journal.specs.Journal.{Read, more, whole, short, read_step, read_up, goes_on_of, taken_up}
use Rattle.incoming.specs.declared.frame.Frame.{Frame}
use Rattle.incoming.specs.declared.frame.Frame.TheVariants.{More, Whole, Short}
use Rattle.incoming.specs.Frame.{Frames, frame_end, framed}

-- the bytes that the journal has are those in the store
pub record Goes (p : List ℕ) (f : Frames) (q : List ℕ) : Type 0 where
  pub bytes : q ≡ take f.result.begun f.packet
  pub octets : Octets q
  pub same_length : length f.packet ≡ length p

-- what taking bytes gives is what the journal reads
abbrev pub Agrees : List ℕ → Frames → Read → Type 0
Agrees p f (more q) =
    (f.result.frame ≡ More) × Goes p f q × (f.result.begun < 65535) × (frame_end f.packet f.result.begun ≡ More)
Agrees p f (whole q) = (f.result.frame ≡ Whole) × Goes p f q × (f.result.begun ≤ 65535)
Agrees p f short = (f.result.frame ≡ Short) × (length f.packet ≡ length p)

-- one byte more
pub octets_snoc : (l : List ℕ) (x : ℕ) → Octets l → x < 256 → Octets (l ++ (x ∷ []))
octets_snoc [] x o h zero = h
octets_snoc [] x o h (suc k) = omega arith
octets_snoc (a ∷ l) x o h zero = o 0
octets_snoc (a ∷ l) x o h (suc k) = octets_snoc l x (λ j. o (suc j)) h k

-- the journal's step is by the same test
abbrev read_by : Frame → List ℕ → Read → Read
read_by More q rest = rest
read_by Whole q rest = whole q
read_by Short q rest = short

step_by : (q : List ℕ) (rest : Read) → read_step q rest ≡ read_by (frame_end q (length q)) q rest
unfolding read_step frame_end
step_by q rest = go (ltb (length q) 3) (ltb (be16 q 1) 3) (leb (be16 q 1) (length q))
  where
    go : (s t u : Bool) → pick s rest (pick t short (pick u (whole q) rest)) ≡ read_by (pick s More (pick t Short (pick u Whole More))) q rest
    go true t u = refl
    go false true u = refl
    go false false true = refl
    go false false false = refl

-- and so is whether the packet goes on
abbrev is_more : Frame → Bool
is_more More = true
is_more Whole = false
is_more Short = false

goes_by : (q : List ℕ) → goes_on_of q ≡ is_more (frame_end q (length q))
unfolding goes_on_of frame_end
goes_by q = go (ltb (length q) 3) (ltb (be16 q 1) 3) (leb (be16 q 1) (length q))
  where
    go : (s t u : Bool) → (s || (not t && not u)) ≡ is_more (pick s More (pick t Short (pick u Whole More)))
    go true t u = refl
    go false true u = refl
    go false false true = refl
    go false false false = refl

-- the frame's test reads the bytes before it alone
pub frame_prefix : (q : List ℕ) (n : ℕ) → frame_end q n ≡ frame_end (take n q) n
unfolding frame_end
frame_prefix q n = go (ltb n 3) refl
  where
    go : (t : Bool) → ltb n 3 ≡ t → frame_end q n ≡ frame_end (take n q) n
    go true e = simp e
    go false e =
        let k : 3 ≤ n = ltb-false _ _ e in
        let a : get_or (take n q) 1 0 ≡ get_or q 1 0 = get_or-take n q 1 0 (omega arith) in
        let b : get_or (take n q) (1 + 1) 0 ≡ get_or q (1 + 1) 0 = get_or-take n q (1 + 1) 0 (omega arith) in
        simp (a, b)

-- a packet that goes on is not at its limit yet
frame_room : (q : List ℕ) (n : ℕ) → Octets q → n ≤ 65535 → frame_end q n ≡ More → n < 65535
unfolding frame_end
frame_room q n o h e = go (ltb n 3) (ltb (be16 q 1) 3) (leb (be16 q 1) n) refl refl e
  where
    go : (s t u : Bool) → ltb n 3 ≡ s → leb (be16 q 1) n ≡ u → pick s More (pick t Short (pick u Whole More)) ≡ More → n < 65535
    go true t u p r w = let k : n < 3 = ltb-true _ _ p in omega arith
    go false true u p r w = absurd (let z : ◌≡◌ {A = ℕ} 0 1 = cc in omega arith)
    go false false true p r w = absurd (let z : ◌≡◌ {A = ℕ} 0 1 = cc in omega arith)
    go false false false p r w =
        let k : n < be16 q 1 = leb-false _ _ r in
        omega (arith, o 1, o (1 + 1))

-- the agreement by what the store's length is, not by the store
agrees_as : (p q : List ℕ) (f : Frames) (r : Read) → length q ≡ length p → Agrees q f r → Agrees p f r
agrees_as p q f (more l) e (a, g, b, c) =
    (a, record { bytes = g.bytes; octets = g.octets; same_length = g.same_length ∙ e }, b, c)
agrees_as p q f (whole l) e (a, g, b) = (a, record { bytes = g.bytes; octets = g.octets; same_length = g.same_length ∙ e }, b)
agrees_as p q f short e (a, l) = (a, l ∙ e)

module _ (x : ℕ) (xs p : List ℕ) (b t : ℕ) (h : b < 65535) (k : 65535 ≤ length p) (o : Octets (take b p)) (small : x < 256) where
  byte_list : take (b + 1) (set p b x) ≡ take b p ++ (x ∷ [])
  byte_list = rw (add-one b) (take-suc-set p b x (omega arith))

  byte-octets : Octets (take b p ++ (x ∷ []))
  byte-octets = octets_snoc (take b p) x o small

  byte_test : frame_end (set p b x) (b + 1) ≡ frame_end (take b p ++ (x ∷ [])) (length (take b p ++ (x ∷ [])))
  byte_test =
      frame_prefix (set p b x) (b + 1)
      ∙ ap (frame_end (take (b + 1) (set p b x))) (sym (length-take-le (b + 1) (set p b x) (omega (arith, length-set p b x))))
      ∙ ap (λ (l : List ℕ). frame_end l (length l)) byte_list

  byte-room : frame_end (set p b x) (b + 1) ≡ More → b + 1 < 65535
  byte-room e =
      frame_room (take (b + 1) (set p b x)) (b + 1) (rw byte_list byte-octets) (omega arith) (sym (frame_prefix (set p b x) (b + 1)) ∙ e)

  -- one byte, given what the rest of the bytes come to
  byte : (b + 1 < 65535 → Octets (take (b + 1) (set p b x)) → frame_end (set p b x) (b + 1) ≡ More
      → Agrees (set p b x) (framed (set p b x) (b + 1) (t + 1) xs) (read_up (take (b + 1) (set p b x)) xs))
      → (f : Frame) → frame_end (set p b x) (b + 1) ≡ f
      → Agrees p (framed p b t (x ∷ xs)) (read_up (take b p) (x ∷ xs))
  unfolding framed read_up
  byte rest More e =
      rw (step_by, ← byte_test, e)
      (rw (← byte_list)
      (agrees_as p (set p b x) (framed (set p b x) (b + 1) (t + 1) xs) (read_up (take (b + 1) (set p b x)) xs) (length-set p b x)
      (rest (byte-room e) (rw byte_list byte-octets) e)))
  byte rest Whole e =
      rw (step_by, ← byte_test, e)
      (refl, record { bytes = sym byte_list; octets = byte-octets; same_length = length-set p b x }, omega arith)
  byte rest Short e = rw (step_by, ← byte_test, e) (refl, length-set p b x)

  -- the same of how many bytes are taken
  byte-count : (b + 1 < 65535 → Octets (take (b + 1) (set p b x)) → frame_end (set p b x) (b + 1) ≡ More
      → (framed (set p b x) (b + 1) (t + 1) xs).result.taken ≡ t + 1 + taken_up (take (b + 1) (set p b x)) xs)
      → (f : Frame) → frame_end (set p b x) (b + 1) ≡ f
      → (framed p b t (x ∷ xs)).result.taken ≡ t + taken_up (take b p) (x ∷ xs)
  unfolding framed taken_up
  byte-count rest More e =
      rw (goes_by, ← byte_test, e)
      (let r = rest (byte-room e) (rw byte_list byte-octets) e in
      let q = ap (λ (l : List ℕ). taken_up l xs) byte_list in omega (arith, r, q))
  byte-count rest Whole e = rw (goes_by, ← byte_test, e) (omega arith)
  byte-count rest Short e = rw (goes_by, ← byte_test, e) (omega arith)

pub frames_agree : (p i : List ℕ) (b t : ℕ) → b < 65535 → 65535 ≤ length p → Octets (take b p) → Octets i → frame_end p b ≡ More
    → Agrees p (framed p b t i) (read_up (take b p) i)
unfolding framed read_up
frames_agree p [] b t h k o oi e = (refl, record { bytes = refl; octets = o; same_length = refl }, h, e)
frames_agree p (x ∷ xs) b t h k o oi e =
    byte x xs p b t h k o (oi 0)
    (λ h' o' e'. frames_agree (set p b x) xs (b + 1) (t + 1) h' (omega (arith, length-set p b x)) o' (λ j. oi (suc j)) e')
    (frame_end (set p b x) (b + 1))
    refl

-- as many are taken as the journal says
pub frames-count : (p i : List ℕ) (b t : ℕ) → b < 65535 → 65535 ≤ length p → Octets (take b p) → Octets i
    → (framed p b t i).result.taken ≡ t + taken_up (take b p) i
unfolding framed taken_up
frames-count p [] b t h k o oi = omega arith
frames-count p (x ∷ xs) b t h k o oi =
    byte-count x xs p b t h k o (oi 0)
    (λ h' o' e'. frames-count (set p b x) xs (b + 1) (t + 1) h' (omega (arith, length-set p b x)) o' (λ j. oi (suc j)))
    (frame_end (set p b x) (b + 1))
    refl
