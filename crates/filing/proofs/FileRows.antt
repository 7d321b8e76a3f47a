-- The payload of the frame `file`: its parts laid one behind the other, and what is read of it. Assumes nothing.
use mathlib.Core.Path.{◌≡◌, refl, sym, ap, ◌∙◌}
use mathlib.Core.Bool.{Bool, true, false}
use mathlib.Core.List.{List, [], ◌∷◌, ◌++◌, append_assoc, append-nil}
use mathlib.Core.Option.{Option, none, some}
use Prim.Native.Nat.{ℕ, ◌+◌, ◌-◌, ◌%◌, ◌≤◌, ◌<◌}
use native.Mathlib.Omega.{arith}
use lib.Dec.{eqb}
use lib.ListN.{length, take, drop, get_or, replicate, length-append, take-append-drop}
use lib.Seq.{paste, take_at, take_all, take-append-add, drop-append-add, get_or-append-add}
use borrow.Author.Tests.{le-ltb, eq-eqb, ne_eqb}
use Rattle.base.specs.Pick.{pick}
use Rattle.base.specs.Bytes.{be32, bytes32}
use Rattle.digest.specs.Md5.{digest_of}
use Rattle.digest.proofs.Octets.{length-digest}
use Rattle.archive.proofs.Laid.{front-more}
use Rattle.filing.specs.Contents.{payload_for}
use Rattle.packet.specs.AuthWrite.{given}
use Rattle.filing.specs.FileFrame.{FileFrame, bytes_in, target_mark, blocks_for, file_bytes, file_of, handed_by, file_row, right_mark, file_read}
use Rattle.filing.specs.Claims.{FilingSays, FitsFile, FileBack}
use Rattle.filing.specs.declared.file.RecordMarks.{RecordMarks}
use Rattle.filing.specs.declared.content.Event.TheVariants.{Filing}
use Rattle.filing.proofs.Framed.{number-back}

-- ---- places behind a part of known length

skip_at : (xs ys : List ℕ) (k n : ℕ) → length xs ≡ k → get_or (xs ++ ys) (k + n) 0 ≡ get_or ys n 0
skip_at xs ys k n e = ap (λ (i : ℕ). get_or (xs ++ ys) (i + n) 0) (sym e) ∙ get_or-append-add xs ys n 0

skip_drop : (xs ys : List ℕ) (k n : ℕ) → length xs ≡ k → drop (k + n) (xs ++ ys) ≡ drop n ys
skip_drop xs ys k n e = ap (λ (i : ℕ). drop (i + n) (xs ++ ys)) (sym e) ∙ drop-append-add xs ys n

skip_take : (xs ys : List ℕ) (k n : ℕ) → length xs ≡ k → take (k + n) (xs ++ ys) ≡ xs ++ take n ys
skip_take xs ys k n e = ap (λ (i : ℕ). take (i + n) (xs ++ ys)) (sym e) ∙ take-append-add xs ys n

-- ---- what may be missing

pub body_most : (b : Bool) (l : List ℕ) → length (bytes_in (given b l)) ≤ length l
body_most true l = omega arith
body_most false l = omega arith

body-part : (b : Bool) (l : List ℕ) (n : ℕ) → n ≡ length (bytes_in (given b l)) → take (n - 0) l ≡ bytes_in (given b l)
body-part true l n e = take_all (n - 0) l (omega arith)
body-part false l n e =
    let i : n - 0 ≡ 0 = omega arith in
    ap (λ (k : ℕ). take k l) i

-- ---- the row

module _ (row first second d₁ d₂ d₃ : List ℕ) (m : ℕ) (lr : length row ≡ 16) (lf : length first ≡ 16) (ls : length second ≡ 16) where
  row_laid : d₁ ≡ paste (replicate 49 m) 0 row (length row) → d₂ ≡ paste d₁ 16 first (length first)
      → d₃ ≡ paste d₂ 32 second (length second) → d₃ ≡ row ++ (first ++ (second ++ (m ∷ [])))
  row_laid e₁ e₂ e₃ =
      let z = replicate 49 m in
      let a : d₁ ≡ row ++ drop 16 z = e₁ ∙ ap (paste z 0 row) lr ∙ front-more [] z z row 0 16 refl refl lr (omega arith) in
      let b : d₂ ≡ (row ++ first) ++ drop 32 z = e₂ ∙ ap (paste d₁ 16 first) lf ∙ front-more row z d₁ first 16 16 a lr lf (omega arith) in
      let lb : length (row ++ first) ≡ 32 = omega (arith, length-append row first, lr, lf) in
      let c : d₃ ≡ ((row ++ first) ++ second) ++ (m ∷ []) =
      e₃ ∙ ap (paste d₂ 32 second) ls ∙ front-more (row ++ first) z d₂ second 32 16 b lb ls (omega arith) in
      c ∙ append_assoc (row ++ first) second (m ∷ []) ∙ append_assoc row first (second ++ (m ∷ []))

row_is : (n h b k m : ℕ) (p q t : List ℕ) → length p ≡ 16 → length q ≡ 16
    → (bytes32 n ++ (bytes32 h ++ (bytes32 b ++ bytes32 k))) ++ (p ++ (q ++ (m ∷ [])))
    ≡ take 49 (bytes32 n ++ (bytes32 h ++ (bytes32 b ++ (bytes32 k ++ (p ++ (q ++ (m ∷ t)))))))
row_is n h b k m p q t lp lq =
    ap (λ (l : List ℕ). bytes32 n ++ (bytes32 h ++ (bytes32 b ++ (bytes32 k ++ l))))
    (sym (skip_take p (q ++ (m ∷ t)) 16 17 lp ∙ ap (λ (l : List ℕ). p ++ l) (skip_take q (m ∷ t) 16 1 lq)))

module _ (x : RecordMarks) (hs b t : List ℕ) where
  pub file_made : (n k m : ℕ) (row first second d₁ d₂ d₃ : List ℕ) → n ≡ length (bytes_in (given x.has_body b))
      → k ≡ blocks_for (given x.has_body b) → m ≡ target_mark (given x.has_target t)
      → row ≡ bytes32 x.number ++ (bytes32 (length hs) ++ (bytes32 n ++ bytes32 k)) → first ≡ digest_of hs
      → second ≡ digest_of (take (n - 0) (drop 0 b)) → d₁ ≡ paste (replicate 49 m) 0 row (length row) → d₂ ≡ paste d₁ 16 first (length first)
      → d₃ ≡ paste d₂ 32 second (length second) → d₃ ≡ file_row x hs b t
  unfolding file_row file_bytes file_of
  file_made n k m row first second d₁ d₂ d₃ en ek em er ef es e₁ e₂ e₃ =
      let o = given x.has_body b in
      let q : second ≡ digest_of (bytes_in o) = es ∙ ap digest_of (body-part x.has_body b n en) in
      let lf : length first ≡ 16 = ap length ef ∙ length-digest hs in
      let ls : length second ≡ 16 = ap length q ∙ length-digest (bytes_in o) in
      row_laid row first second d₁ d₂ d₃ m (ap length er) lf ls e₁ e₂ e₃
      ∙ ap (λ (l : List ℕ). l ++ (first ++ (second ++ (m ∷ [])))) er
      ∙ row_is x.number (length hs) n k m first second (bytes_in (given x.has_target t)) lf ls
      ∙ rw (en, ek, em, ef, q) refl

  row-says : payload_for Filing (file_row x hs b t) (bytes_in (given x.has_target t)) [] ≡ file_bytes (file_of x.number (handed_by x hs b t))
  unfolding payload_for file_row file_bytes file_of
  row-says =
      let h = handed_by x hs b t in
      let l = file_bytes (file_of x.number h) in
      let p = digest_of hs in
      let q = digest_of (bytes_in h.given.body) in
      let m = target_mark h.target in
      let d : drop 49 l ≡ bytes_in h.target =
      skip_drop p (q ++ (m ∷ bytes_in h.target)) 16 17 (length-digest hs)
      ∙ skip_drop q (m ∷ bytes_in h.target) 16 1 (length-digest (bytes_in h.given.body)) in
      ap (λ (u : List ℕ). take 49 l ++ u) (append-nil (bytes_in h.target) ∙ sym d) ∙ take-append-drop 49 l

pub filing_says : FilingSays
filing_says m hs b t = row-says m hs b t

-- ---- read back

module _ (f : FileFrame) (fits : FitsFile f) where
  behind : List ℕ
  behind = f.body_sum ++ (target_mark f.target ∷ bytes_in f.target)

  number_is : be32 (file_bytes f) 0 ≡ f.number
  unfolding file_bytes
  number_is = number-back f.number fits.0

  headers_is : be32 (file_bytes f) 4 ≡ f.headers
  unfolding file_bytes
  headers_is = number-back f.headers fits.1

  body_is : be32 (file_bytes f) 8 ≡ f.body
  unfolding file_bytes
  body_is = number-back f.body fits.2

  blocks_is : be32 (file_bytes f) 12 ≡ f.blocks
  unfolding file_bytes
  blocks_is = number-back f.blocks fits.3

  lh : length f.headers_sum ≡ 16
  lh = fits.4

  lb : length f.body_sum ≡ 16
  lb = fits.5

  few : length (bytes_in f.target) < 255
  few = fits.6

  mark_is : get_or (file_bytes f) 48 0 ≡ target_mark f.target
  unfolding file_bytes behind
  mark_is = skip_at f.headers_sum behind 16 16 lh ∙ skip_at f.body_sum (target_mark f.target ∷ bytes_in f.target) 16 0 lb

  size_is : length (file_bytes f) ≡ 49 + length (bytes_in f.target)
  unfolding file_bytes behind
  size_is =
      omega (
        arith,
        length-append f.headers_sum behind,
        length-append f.body_sum (target_mark f.target ∷ bytes_in f.target),
        lh,
        lb,
      )

  headers-sum : take 16 (drop 16 (file_bytes f)) ≡ f.headers_sum
  unfolding file_bytes behind
  headers-sum = take_at f.headers_sum behind 16 lh

  body-sum : take 16 (drop 32 (file_bytes f)) ≡ f.body_sum
  unfolding file_bytes behind
  body-sum =
      ap (take 16) (skip_drop f.headers_sum behind 16 0 lh) ∙ take_at f.body_sum (target_mark f.target ∷ bytes_in f.target) 16 lb

  target-bytes : drop 49 (file_bytes f) ≡ bytes_in f.target
  unfolding file_bytes behind
  target-bytes = skip_drop f.headers_sum behind 16 17 lh ∙ skip_drop f.body_sum (target_mark f.target ∷ bytes_in f.target) 16 1 lb

pub file_size : (f : FileFrame) → FitsFile f → (49 ≤ length (file_bytes f)) × (length (file_bytes f) ≤ 303)
file_size f fits = omega (arith, size_is f fits, few f fits)

-- the mark says whether there is a Target, and how long it is
mark_right : (o : Option (List ℕ)) → length (bytes_in o) < 255 → right_mark (target_mark o) (length (bytes_in o)) ≡ true
mark_right none h = refl
mark_right (some t) h =
    let e : length t % 256 ≡ length t = omega arith in
    rw (ne_eqb (length t % 256) 255 (λ (i : length t % 256 ≡ 255). omega arith), eq-eqb (length t % 256) (length t) e) refl

mark_tells : (o : Option (List ℕ)) → length (bytes_in o) < 255 → pick (eqb (target_mark o) 255) none (some (bytes_in o)) ≡ o
mark_tells none h = refl
mark_tells (some t) h = rw (ne_eqb (length t % 256) 255 (λ (i : length t % 256 ≡ 255). omega arith)) refl

pub file_back : FileBack
unfolding file_read
file_back f fits =
    let i : length (file_bytes f) - 49 ≡ length (bytes_in f.target) = omega (arith, size_is f fits) in
    let r = mark_right f.target (few f fits) in
    let t = mark_tells f.target (few f fits) in
    rw (
      le-ltb (length (file_bytes f)) 49 (omega (arith, size_is f fits)),
      mark_is f fits,
      i,
      r,
      number_is f fits,
      headers_is f fits,
      body_is f fits,
      blocks_is f fits,
      headers-sum f fits,
      body-sum f fits,
      target-bytes f fits,
      t,
    ) refl
