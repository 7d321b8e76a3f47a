-- Canonical headers: those of which each value is as the writer gives it. Assumes nothing.
use mathlib.Core.Path.{◌≡◌, refl, sym, ap, ◌∙◌, subst}
use mathlib.Core.Bool.{Bool, true, false, ◌&&◌, and-eq-true_iff, and-false}
use mathlib.Core.List.{List, [], ◌∷◌, ◌++◌, map}
use mathlib.Core.Option.{Option, none, some}
use Prim.Native.Nat.{ℕ, ◌+◌, ◌-◌, ◌≤◌, ◌<◌}
use native.Mathlib.Omega.{arith}
use lib.Dec.{ltb, eqb}
use lib.ListN.{length, get_or, take, drop, length-append, length-drop}
use lib.Seq.{get_or-drop}
use borrow.Author.Tests.{eq-eqb, ne_eqb, lt-ltb, le-ltb, ltb-true, ltb-false, eqb-true, eqb-false}
use Rattle.base.specs.Pick.{pick}
use Rattle.text.specs.Unicode.{up_to_zero_of, codes, units, paired, pieces16, scalars16, well_formed16, lossy, scalars8, well_formed8, NoZero, text8, Octets}
use Rattle.text.specs.Text.{ascii_text}
use Rattle.text.proofs.Back16.{scalars16_valid, scalars16_nonzero}
use Rattle.text.proofs.Back8.{lossy_valid, scalars8_valid, scalars8_nonzero, scalars8-text8, text8-scalars8}
use Rattle.packet.specs.declared.header.HeaderEncoding.{HeaderEncoding}
use Rattle.packet.specs.declared.header.HeaderEncoding.TheVariants.{Unicode, Bytes, U8, U32}
use Rattle.packet.specs.Header.{Header, encoding_of, tagged, allowed, part, push, read_headers, all_bytes}
use Rattle.packet.specs.Auth.{same}
use Rattle.packet.specs.HeaderWriter.{header}
use Rattle.packet.specs.Canonical.{terminated16, rewritten, rewritten_header, canonical_as, canonical}
use Rattle.packet.proofs.HeaderBytes.{header-bytes}
use Rattle.packet.proofs.HeaderWrites.{Sized, AllShaped, read-written, all_read, read_shaped}
use Rattle.packet.proofs.TextForms.{octets-take, scalars8-stop, scalars16_terminated, ended16, back16, ended8, back8, plain8}
use Rattle.packet.proofs.SameBytes.{same_self, same-equal, same_is}

-- ---- the tests of a value

pub not_same : (a b : List ℕ) → (a ≡ b → ⊥) → false ≡ same a b
not_same a b h = same_is a b false (λ e. let z : ◌≡◌ {A = ℕ} 0 1 = cc in absurd (omega arith)) (λ e. absurd (h e))

-- UTF-16 text
pub empty16 : (v : List ℕ) → length v ≡ 0 → true ≡ same (terminated16 (scalars16 v)) v
unfolding same scalars16 codes pieces16 paired up_to_zero_of units
empty16 [] h = refl
empty16 (x ∷ v) h = absurd (omega arith)

pub test16 : (v : List ℕ) (n : ℕ) (x : Bool) → length v ≡ n + 2 → Octets v → 2 ≤ n → get_or v n 0 ≡ 0 → get_or v (n + 1) 0 ≡ 0 → x
    ≡ well_formed16 (take n v)
    → x ≡ same (terminated16 (scalars16 v)) v
test16 v n x h o l a b q =
    same_is (terminated16 (scalars16 v)) v x
    (λ e. back16 v n h o (record { long = l; high = a; low = b; formed = sym q ∙ e }))
    (λ e. q ∙ (ended16 v n h o e).formed)

-- Type
pub empty8 : (v : List ℕ) → length v ≡ 0 → false ≡ same (text8 (scalars8 v) ++ (0 ∷ [])) v
empty8 v h = not_same (text8 (scalars8 v) ++ (0 ∷ [])) v (λ e. omega (arith, ap length e, length-append (text8 (scalars8 v)) (0 ∷ [])))

pub test8 : (v : List ℕ) (n : ℕ) (x : Bool) → length v ≡ n + 1 → get_or v n 0 ≡ 0 → x ≡ well_formed8 (take n v) → x
    ≡ same (text8 (scalars8 v) ++ (0 ∷ [])) v
test8 v n x h a q =
    same_is (text8 (scalars8 v) ++ (0 ∷ [])) v x
    (λ e. back8 v n h (record { last = a; formed = sym q ∙ e }))
    (λ e. q ∙ (ended8 v n h e).formed)

-- Time
pub plain_test : (v : List ℕ) (x : Bool) → x ≡ well_formed8 v → x ≡ same (text8 (scalars8 v)) v
plain_test v x q = same_is (text8 (scalars8 v)) v x (λ e. text8-scalars8 v (sym q ∙ e)) (λ e. q ∙ plain8 v e)

-- Permissions
pub top_test : (v : List ℕ) → 0 < length v → eqb (get_or v 0 0) 0 ≡ same (0 ∷ drop 1 v) v
top_test [] h = absurd (omega arith)
top_test (x ∷ v) h =
    same_is (0 ∷ v) (x ∷ v) (eqb x 0)
    (λ e. ap (λ (y : ℕ). y ∷ v) (sym (eqb-true x 0 e)))
    (λ e. let q : x ≡ 0 = cc in eq-eqb x 0 q)

-- ids whose value is written as it was read
pub as_read : (id : ℕ) (v : List ℕ) → 64 ≤ id → (id ≡ 0x42 → ⊥) → (id ≡ 0x44 → ⊥) → (id ≡ 0xD6 → ⊥) → rewritten id v ≡ v
unfolding rewritten
as_read id v a b c d = simp (le-ltb id 64 a, ne_eqb id 0x42 b, ne_eqb id 0x44 c, ne_eqb id 0xD6 d)

-- ---- a header that is written anew reads back

-- what is written for what was written is the same
pub rewritten_again : (id : ℕ) (v : List ℕ) → Octets v → rewritten id (rewritten id v) ≡ rewritten id v
unfolding rewritten
rewritten_again id v o = by (ltb id 64) (eqb id 0x42) (eqb id 0x44) (eqb id 0xD6)
  where
    write : Bool → Bool → Bool → Bool → List ℕ → List ℕ
    write a b c d v =
        pick a (terminated16 (scalars16 v)) (pick b (text8 (scalars8 v) ++ (0 ∷ []))
        (pick c (text8 (scalars8 v)) (pick d (0 ∷ drop 1 v) v)))

    by : (a b c d : Bool) → write a b c d (write a b c d v) ≡ write a b c d v
    by true b c d = ap terminated16 (scalars16_terminated (scalars16 v) (scalars16_valid v o) (scalars16_nonzero v))
    by false true c d =
        ap (λ (cs : List ℕ). text8 cs ++ (0 ∷ []))
        (scalars8-stop (text8 (scalars8 v)) ∙ scalars8-text8 (scalars8 v) (scalars8_valid v) (scalars8_nonzero v))
    by false false true d = ap (λ (cs : List ℕ). text8 cs) (scalars8-text8 (scalars8 v) (scalars8_valid v) (scalars8_nonzero v))
    by false false false true = refl
    by false false false false = refl

-- text and bytes may be of any length
sized-free : (id n : ℕ) → id < 128 → Sized (encoding_of id) n
unfolding encoding_of
sized-free id n h = by (ltb id 64) (ltb id 128) (lt-ltb id 128 h)
  where
    by : (x y : Bool) → y ≡ true → Sized (pick x Unicode (pick y Bytes (pick (ltb id 192) U8 U32))) n
    by true y e = tt
    by false true e = tt
    by false false e = let z : ◌≡◌ {A = ℕ} 0 1 = cc in absurd (omega arith)

-- others have a byte at least
sized-some : (id n : ℕ) → 128 ≤ id → Sized (encoding_of id) n → 0 < n
unfolding encoding_of
sized-some id n h = by (ltb id 64) (ltb id 128) (ltb id 192) (le-ltb id 64 (omega arith)) (le-ltb id 128 h)
  where
    by : (x y w : Bool) → x ≡ false → y ≡ false → Sized (pick x Unicode (pick y Bytes (pick w U8 U32))) n → 0 < n
    by true y w e f s = let z : ◌≡◌ {A = ℕ} 0 1 = cc in absurd (omega arith)
    by false true w e f s = let z : ◌≡◌ {A = ℕ} 0 1 = cc in absurd (omega arith)
    by false false true e f s = omega arith
    by false false false e f s = omega arith

-- and are written as long as they were read
size-kept : (id : ℕ) (v : List ℕ) → 128 ≤ id → 0 < length v → length (rewritten id v) ≡ length v
unfolding rewritten
size-kept id v h l =
    simp (le-ltb id 64 (omega arith), ne_eqb id 0x42 (λ e. omega arith), ne_eqb id 0x44 (λ e. omega arith)) (by (eqb id 0xD6))
  where
    by : (x : Bool) → length (pick x (0 ∷ drop 1 v) v) ≡ length v
    by true = omega (arith, length-drop 1 v)
    by false = refl

rewritten-sized : (id : ℕ) (v : List ℕ) → Sized (encoding_of id) (length v) → Sized (encoding_of id) (length (rewritten id v))
rewritten-sized id v s = by (ltb id 128) refl
  where
    by : (x : Bool) → ltb id 128 ≡ x → Sized (encoding_of id) (length (rewritten id v))
    by true e = sized-free id (length (rewritten id v)) (ltb-true id 128 e)
    by false e =
        let h = ltb-false id 128 e in
        rw (size-kept id v h (sized-some id (length v) h s)) s

-- the ids with rules of their own have values that are written as they were read
rewritten-allowed : (id : ℕ) (v : List ℕ) → allowed id v ≡ true → allowed id (rewritten id v) ≡ true
unfolding allowed tagged
rewritten-allowed id v a = by (ltb id 64) (eqb id 0x42) (eqb id 0x44) (eqb id 0xD6) refl refl refl refl
  where
    free : (w : List ℕ) → id < 64 → allowed id w ≡ true
    free w h =
        simp (
          ne_eqb id 0x94 (λ e. omega arith),
          ne_eqb id 0x97 (λ e. omega arith),
          ne_eqb id 0x98 (λ e. omega arith),
          ne_eqb id 0x4C (λ e. omega arith),
          ne_eqb id 0x4D (λ e. omega arith),
          ne_eqb id 0x4E (λ e. omega arith),
          ne_eqb id 0x52 (λ e. omega arith),
        )

    by : (p q r t : Bool) → ltb id 64 ≡ p → eqb id 0x42 ≡ q → eqb id 0x44 ≡ r → eqb id 0xD6 ≡ t → allowed id (rewritten id v) ≡ true
    by true q r t e f g h = free (rewritten id v) (ltb-true id 64 e)
    by false true r t e f g h = subst (λ (i : ℕ). allowed i (rewritten id v) ≡ true) (sym (eqb-true id 0x42 f)) refl
    by false false true t e f g h = subst (λ (i : ℕ). allowed i (rewritten id v) ≡ true) (sym (eqb-true id 0x44 g)) refl
    by false false false true e f g h = subst (λ (i : ℕ). allowed i (rewritten id v) ≡ true) (sym (eqb-true id 0xD6 h)) refl
    by false false false false e f g h =
        rw (as_read id v (ltb-false id 64 e) (eqb-false id 0x42 f) (eqb-false id 0x44 g) (eqb-false id 0xD6 h)) a

rewritten_shaped : (hs : List Header) → AllShaped hs → AllShaped (map rewritten_header hs)
rewritten_shaped [] w = tt
rewritten_shaped (h ∷ hs) w = (
  record {
    sized = rewritten-sized h.id h.value w.0.sized;
    is_allowed = rewritten-allowed h.id h.value
        w.0.is_allowed;
  },
  rewritten_shaped hs w.1,
)

-- reading what the writer wrote gives the list that was written
pub rewritten-read : (s : List ℕ) (from : ℕ) (hs : List Header) → read_headers s from ≡ some hs
    → read_headers (all_bytes (map rewritten_header hs)) 0 ≡ some (map rewritten_header hs)
rewritten-read s from hs e = read-written (map rewritten_header hs) (all_bytes (map rewritten_header hs)) 0
    (rewritten_shaped hs (read_shaped s from hs e)) refl

-- ---- canonical bytes, header by header

unfoldable pub as_written : List Header → Bool
as_written [] = true
as_written (h ∷ hs) = same (rewritten h.id h.value) h.value && as_written hs

abbrev pub all_written : Option (List Header) → Bool
all_written none = false
all_written (some hs) = as_written hs

unchanged : (hs : List Header) → as_written hs ≡ true → map rewritten_header hs ≡ hs
unfolding as_written
unchanged [] e = refl
unchanged (h ∷ hs) e =
    let a = (and-eq-true_iff (same (rewritten h.id h.value) h.value) (as_written hs)).0 e in
    let v = same-equal (rewritten h.id h.value) h.value a.0 in
    ap (λ (v : List ℕ). header h.id v ∷ map rewritten_header hs) v ∙ ap (λ (l : List Header). h ∷ l) (unchanged hs a.1)

changed : (hs : List Header) → map rewritten_header hs ≡ hs → as_written hs ≡ true
unfolding as_written
changed [] e = refl
changed (h ∷ hs) e =
    let p : rewritten_header h ≡ h = cc in
    let q : map rewritten_header hs ≡ hs = cc in
    let v : rewritten h.id h.value ≡ h.value = ap (λ (k : Header). k.value) p in
    rw (v, same_self h.value) (changed hs q)

-- writing what was read gives the bytes back just where each value is as the writer gives it
pub canonical_list : (s : List ℕ) → Octets s → canonical s ≡ all_written (read_headers s 0)
unfolding canonical
canonical_list s o = by (read_headers s 0) refl
  where
    back : (hs : List Header) → read_headers s 0 ≡ some hs → all_bytes (map rewritten_header hs) ≡ s → as_written hs ≡ true
    back hs q e =
        let r = read-written (map rewritten_header hs) s 0 (rewritten_shaped hs (read_shaped s 0 hs q)) (sym e) in
        let m : map rewritten_header hs ≡ hs = cc in
        changed hs m

    by : (r : Option (List Header)) → read_headers s 0 ≡ r → canonical_as s (read_headers s 0) ≡ all_written (read_headers s 0)
    by none q = rw q refl
    by (some hs) q =
        rw q
        (sym
        (same_is (all_bytes (map rewritten_header hs)) s (as_written hs)
        (λ e. ap all_bytes (unchanged hs e) ∙ header-bytes s 0 hs o q)
        (back hs q)))

pub push-written : (h : Header) (r : Option (List Header)) → all_written (push h r)
    ≡ (same (rewritten h.id h.value) h.value && all_written r)
unfolding as_written
push-written h none = sym (and-false (same (rewritten h.id h.value) h.value))
push-written h (some hs) = refl

-- ---- what the writer wrote is canonical

octets_at : (s : List ℕ) (at id : ℕ) (e : HeaderEncoding) (from to : ℕ) → Octets s → rewritten id (rewritten id (part s from to))
    ≡ rewritten id (part s from to)
octets_at s at id e from to o = rewritten_again id (part s from to)
    (octets-take (drop from s) (to - from) (λ k. rw (get_or-drop from s k 0) (o (from + k))))

pub rewritten-canonical : (s : List ℕ) (from : ℕ) (hs : List Header) → Octets s → read_headers s from ≡ some hs
    → canonical (all_bytes (map rewritten_header hs)) ≡ true
unfolding canonical
rewritten-canonical s from hs o e =
    let w = map rewritten_header hs in
    let i : map rewritten_header w ≡ w =
    all_read (λ (h : Header). rewritten h.id (rewritten h.id h.value) ≡ rewritten h.id h.value)
    (λ (hs : List Header). map rewritten_header (map rewritten_header hs) ≡ map rewritten_header hs)
    refl
    (λ h hs p q. ap (λ (v : List ℕ). header h.id v ∷ map rewritten_header (map rewritten_header hs)) p
    ∙ ap (λ (l : List Header). rewritten_header h ∷ l) q)
    s
    (λ at id c b t h. octets_at s at id c b t o)
    from hs e in
    rw (rewritten-read s from hs e, i) (same_self (all_bytes w))

-- ---- the texts that are written

-- Type and Time are written as the writer gives them for what the reader reads
pub type-value : (t : List ℕ) → ascii_text t ++ (0 ∷ []) ≡ rewritten 0x42 t
unfolding rewritten ascii_text
type-value t = refl

pub time-value : (t : List ℕ) → ascii_text t ≡ rewritten 0x44 t
unfolding rewritten ascii_text
time-value t = refl

-- that is the whole text where it has no zero
pub ascii_whole : (t : List ℕ) → up_to_zero_of t ≡ t → ascii_text t ≡ text8 (lossy t)
unfolding ascii_text scalars8
ascii_whole t e = ap (λ (t : List ℕ). text8 (lossy t)) e

-- text in UTF-16 reads as it was given, where it has no zero
pub unicode-read : (t : List ℕ) → NoZero (lossy t) → scalars16 (terminated16 (lossy t)) ≡ lossy t
unicode-read t z = scalars16_terminated (lossy t) (lossy_valid t) z
