-- Paths below a receiver's folder: the code's layout, three names behind slashes, is the path that the definitions say. Assumes nothing.
use mathlib.Core.Path.{◌≡◌, refl, sym, ap, ap₂, subst, ◌∙◌}
use mathlib.Core.Bool.{Bool, true, false}
use mathlib.Core.List.{List, [], ◌∷◌, ◌++◌, append_assoc, append-nil}
use Prim.Native.Nat.{ℕ, zero, suc, ◌+◌, ◌/◌, ◌%◌, ◌≤◌, ◌<◌}
use native.Mathlib.Omega.{arith}
use lib.Dec.{eqb, ltb}
use lib.ListN.{length, get_or, take, drop, replicate, length-append}
use lib.Seq.{paste, take-append-add, take_at, drop_at}
use borrow.Author.Tests.{ltb-false, le-ltb, ne_eqb}
use Rattle.base.specs.Pick.{pick}
use Rattle.archive.proofs.Laid.{front-more}
use Rattle.calendar.specs.Time.{decimal, text_of, time_of, instant_of}
use Rattle.digest.specs.Md5.{octets16}
use Rattle.table.specs.Targets.{is_named}
use Rattle.table.specs.declared.targets.Target.{Target}
use Rattle.files.specs.Name.{part, plain, file_name}
use Rattle.files.specs.Path.{in_folder, hex_digit, hex_of, service_word, service_folder}
use Rattle.files.specs.Store.{Filled, filled, fit}
use Rattle.files.proofs.Joins.{joined-both, joined-name, hex_size, named-short, mark_folder}
use Rattle.filing.specs.Names.{hex8, session_name, record_name, part_name}
use Rattle.filing.specs.Lines.{bytes}
use Rattle.filing.specs.Paths.{session_of, in_session, below, leaf_of, part_file, length_of, record_path, rule_path, Plain, one, more, RecordPathsPlain, RulePathsPlain, RecordPathsApart}
use Rattle.filing.specs.declared.paths.SessionId.{SessionId}
use Rattle.filing.specs.declared.paths.Place.{Place}
use Rattle.filing.specs.declared.paths.Place.TheVariants.{Archive, Session, Log, Part, Headers, Body, Note, Record}
use Rattle.filing.proofs.Named.{length-time, length-record, record-names}

-- ---- what is in a store that fits

pub fit-taken : (t d e : List ℕ) (r : ℕ) → filled r e ≡ fit t d → length t ≤ length d → take r e ≡ t
unfolding fit
fit-taken t d e r p h =
    let q = rw (le-ltb (length d) (length t) h) at p in
    let a : r ≡ length t = ap (λ (f : Filled). f.count) q in
    let b : e ≡ t ++ drop (length t) d = ap (λ (f : Filled). f.store) q in
    ap₂ (λ (n : ℕ) (s : List ℕ). take n s) a b ∙ take_at t (drop (length t) d) (length t) refl

-- ---- the layout

pub length-session : (s : SessionId) → length (session_of s) ≡ 33
unfolding session_name
length-session s =
    let a = length-append (time_of s.clock) (0x2D ∷ (hex8 s.high ++ hex8 s.low)) in
    a ∙ ap (λ (n : ℕ). n + 17) (length-time s.clock)

-- the word, the session and what is behind it
abbrev pub whole : List ℕ → List ℕ → List ℕ → List ℕ
whole name leaf file = (bytes "archive" ++ (0x2F ∷ name)) ++ (0x2F ∷ (leaf ++ (0x2F ∷ file)))

module _ (name leaf file d₁ d₂ d₃ d₄ : List ℕ) (ln : length name ≡ 33) (ll : length leaf ≡ 11) (lf : length file ≡ 7) where
  abbrev slashes : List ℕ
  slashes = replicate 61 0x2F

  pub layout : d₁ ≡ paste slashes 0 (bytes "archive") 7 → d₂ ≡ paste d₁ 8 name (length name) → d₃ ≡ paste d₂ 42 leaf (length leaf)
      → d₄ ≡ paste d₃ 54 file (length file) → d₄ ≡ whole name leaf file
  layout e₁ e₂ e₃ e₄ =
      let w = bytes "archive" ++ (0x2F ∷ []) in
      let a : d₁ ≡ w ++ drop 8 slashes = e₁ in
      let b : d₂ ≡ (w ++ name) ++ drop 41 slashes =
      e₂ ∙ ap (paste d₁ 8 name) ln ∙ front-more w slashes d₁ name 8 33 a refl ln (omega arith) in
      let p = w ++ name in
      let lp : length p ≡ 41 = omega (arith, length-append w name, ln) in
      let b' : d₂ ≡ (p ++ (0x2F ∷ [])) ++ drop 42 slashes = b ∙ sym (append_assoc p (0x2F ∷ []) (drop 42 slashes)) in
      let q = p ++ (0x2F ∷ []) in
      let lq : length q ≡ 42 = omega (arith, length-append p (0x2F ∷ []), lp) in
      let c : d₃ ≡ (q ++ leaf) ++ drop 53 slashes =
      e₃ ∙ ap (paste d₂ 42 leaf) ll ∙ front-more q slashes d₂ leaf 42 11 b' lq ll (omega arith) in
      let u = q ++ leaf in
      let lu : length u ≡ 53 = omega (arith, length-append q leaf, lq, ll) in
      let c' : d₃ ≡ (u ++ (0x2F ∷ [])) ++ drop 54 slashes = c ∙ sym (append_assoc u (0x2F ∷ []) (drop 54 slashes)) in
      let v = u ++ (0x2F ∷ []) in
      let lv : length v ≡ 54 = omega (arith, length-append u (0x2F ∷ []), lu) in
      let d : d₄ ≡ (v ++ file) ++ drop 61 slashes =
      e₄ ∙ ap (paste d₃ 54 file) lf ∙ front-more v slashes d₃ file 54 7 c' lv lf (omega arith) in
      d ∙ append-nil (v ++ file) ∙ append_assoc u (0x2F ∷ []) file ∙ append_assoc q leaf (0x2F ∷ file)
      ∙ append_assoc p (0x2F ∷ []) (leaf ++ (0x2F ∷ file))

-- what is behind the session's name
front_of : (name leaf file : List ℕ) (k : ℕ) → length name ≡ 33
    → take (41 + k) (whole name leaf file) ≡ (bytes "archive" ++ (0x2F ∷ name)) ++ take k (0x2F ∷ (leaf ++ (0x2F ∷ file)))
front_of name leaf file k e =
    let a = bytes "archive" ++ (0x2F ∷ name) in
    let l : length a ≡ 41 = omega (arith, length-append (bytes "archive") (0x2F ∷ name), e) in
    let z : length a + k ≡ 41 + k = ap (λ (n : ℕ). n + k) l in
    ap (λ (n : ℕ). take n (whole name leaf file)) (sym z) ∙ take-append-add a (0x2F ∷ (leaf ++ (0x2F ∷ file))) k

-- a path in the session's folder
in_session_lem : (s : SessionId) (p : List ℕ) → (bytes "archive" ++ (0x2F ∷ session_of s)) ++ (0x2F ∷ p) ≡ in_session s p
unfolding in_folder
in_session_lem s p =
    let n : length (session_of s) ≡ 0 → ⊥ = λ z. omega (arith, z, length-session s) in
    append_assoc (bytes "archive") (0x2F ∷ session_of s) (0x2F ∷ p)
    ∙ ap (λ (q : List ℕ). bytes "archive" ++ (0x2F ∷ q)) (sym (joined-both (session_of s) p n))

pub place_taken : (s : SessionId) (n : ℕ) (place : Place)
    → take (length_of place) (whole (session_of s) (leaf_of place n) (part_file place)) ≡ below s n place
unfolding below in_folder record_name part_name decimal
place_taken s n Archive = refl
place_taken s n Session = front_of (session_of s) (leaf_of Session n) (part_file Session) 0 (length-session s) ∙ append-nil (bytes "archive" ++
    (0x2F ∷ session_of s))
place_taken s n Log = front_of (session_of s) (leaf_of Log n) (part_file Log) 8 (length-session s) ∙ in_session_lem s (bytes "session")
place_taken s n Part = front_of (session_of s) (leaf_of Part n) (part_file Part) 12 (length-session s) ∙ in_session_lem s (part_name n)
place_taken s n Headers = front_of (session_of s) (leaf_of Headers n) (part_file Headers) 20 (length-session s) ∙ in_session_lem s (in_folder (part_name n)
    (bytes "headers"))
place_taken s n Body = front_of (session_of s) (leaf_of Body n) (part_file Body) 17 (length-session s) ∙ in_session_lem s (in_folder (part_name n)
    (bytes "body"))
place_taken s n Note = front_of (session_of s) (leaf_of Note n) (part_file Note) 17 (length-session s) ∙ in_session_lem s (in_folder (part_name n)
    (bytes "note"))
place_taken s n Record = front_of (session_of s) (leaf_of Record n) (part_file Record) 7 (length-session s) ∙ in_session_lem s (record_name n)

pub below_is : (s : SessionId) (n : ℕ) (place : Place) (k : ℕ) (path name leaf file : List ℕ) → k ≡ length_of place → path ≡ whole name leaf file
    → name ≡ session_of s → leaf ≡ leaf_of place n → file ≡ part_file place → take k path ≡ below s n place
below_is s n place k path name leaf file e p a b c =
    ap₂ (λ (i : ℕ) (l : List ℕ). take i l) e p
    ∙ ap (λ (x : List ℕ). take (length_of place) (whole x leaf file)) a
    ∙ ap₂ (λ (x y : List ℕ). take (length_of place) (whole (session_of s) x y)) b c ∙ place_taken s n place

pub length_leaf : (place : Place) (n : ℕ) → length (leaf_of place n) ≡ 11
unfolding record_name part_name decimal
length_leaf Log n = refl
length_leaf Archive n = refl
length_leaf Session n = refl
length_leaf Part n = refl
length_leaf Headers n = refl
length_leaf Body n = refl
length_leaf Note n = refl
length_leaf Record n = refl

pub length_file : (place : Place) → length (part_file place) ≡ 7
length_file Log = refl
length_file Archive = refl
length_file Session = refl
length_file Part = refl
length_file Headers = refl
length_file Body = refl
length_file Note = refl
length_file Record = refl

-- ---- the path of a rule file

pub take_short : (k : ℕ) (l : List ℕ) → length (take k l) ≤ k
take_short zero l = omega arith
take_short (suc k) [] = omega arith
take_short (suc k) (b ∷ l) = omega (arith, take_short k l)

joined_most : (f n : List ℕ) → length (in_folder f n) ≤ length f + 1 + length n
unfolding in_folder
joined_most [] n = omega arith
joined_most (b ∷ f) n = omega (arith, length-append f (0x2F ∷ n))

short_by_lem : (s : List ℕ) (x y : Bool) (z : Bool) → eqb (length s) 0 ≡ x → ltb 255 (length s) ≡ y → pick x false (pick y false z) ≡ true
    → length s ≤ 255
short_by_lem s true y z p q e = let w : ◌≡◌ {A = ℕ} 0 1 = cc in absurd (omega arith)
short_by_lem s false true z p q e = let w : ◌≡◌ {A = ℕ} 0 1 = cc in absurd (omega arith)
short_by_lem s false false z p q e = ltb-false 255 (length s) q

pub name-size : (s : List ℕ) → file_name s ≡ true → length s ≤ 255
unfolding file_name
name-size s e = short_by_lem s (eqb (length s) 0) (ltb 255 (length s)) (pick (eqb (get_or s 0 0) 46) false (plain s)) refl refl e

pub no_rule : (f name d : List ℕ) (g : Target) → file_name name ≡ false → filled 0 d ≡ fit (rule_path f g name) d
unfolding rule_path fit
no_rule f name d g e =
    let z : ltb (length d) 0 ≡ false = le-ltb (length d) 0 (omega arith) in
    rw (e, z) refl

module _ (f name d s nm inner fi outer fo e : List ℕ) (g : Target) (k n m r : ℕ) where
  pub rule_laid : file_name name ≡ true → s ≡ take k nm → take k nm ≡ service_folder g → k ≤ 40
      → filled n inner ≡ fit (in_folder s name) (replicate 296 0) → fi ≡ take n inner
      → filled m outer ≡ fit (in_folder (bytes "rules") fi) (replicate 302 0) → fo ≡ take m outer
      → filled r e ≡ fit (in_folder f fo) d → filled r e ≡ fit (rule_path f g name) d
  unfolding rule_path
  rule_laid t a b h p q u v w =
      let l = name-size name t in
      let ls : length s ≤ 40 = omega (arith, ap length a, take_short k nm) in
      let fits : length (in_folder s name) ≤ length {A = ℕ} (replicate 296 0) = omega (arith, joined_most s name, ls, l) in
      let x : fi ≡ in_folder s name = q ∙ fit-taken (in_folder s name) (replicate 296 0) inner n p fits in
      let room : length (in_folder (bytes "rules") fi) ≤ length {A = ℕ} (replicate 302 0) =
      omega (arith, joined_most (bytes "rules") fi, ap length x, joined_most s name, ls, l) in
      let y : fo ≡ in_folder (bytes "rules") (in_folder (service_folder g) name) =
      v ∙ fit-taken (in_folder (bytes "rules") fi) (replicate 302 0) outer m u room
      ∙ ap (in_folder (bytes "rules")) (x ∙ ap (λ (z : List ℕ). in_folder z name) (a ∙ b)) in
      w ∙ rw t (ap (λ (z : List ℕ). fit (in_folder f z) d) y)

-- ---- plain components

file_name_lem : (s : List ℕ) → 0 < length s → length s ≤ 255 → (get_or s 0 0 ≡ 46 → ⊥) → plain s ≡ true → file_name s ≡ true
unfolding file_name
file_name_lem s h l n p =
    let z : eqb (length s) 0 ≡ false = ne_eqb (length s) 0 (λ e. omega (arith, e)) in
    rw (z, le-ltb 255 (length s) l, ne_eqb (get_or s 0 0) 46 n) p

plain-append : (a b : List ℕ) → plain a ≡ true → plain b ≡ true → plain (a ++ b) ≡ true
unfolding plain
plain-append [] b p q = q
plain-append (x ∷ a) b p q = go (part x) (λ r. plain-append a b r q) p
  where
    go : (y : Bool) → (plain a ≡ true → plain (a ++ b) ≡ true) → pick y (plain a) false ≡ true → pick y (plain (a ++ b)) false ≡ true
    go true ih r = ih r
    go false ih r = let z : ◌≡◌ {A = ℕ} 0 1 = cc in absurd (omega arith)

part-above : (x : ℕ) → 47 < x → part x ≡ true
unfolding part
part-above x h =
    let a : eqb x 0 ≡ false = ne_eqb x 0 (λ e. omega (arith, e)) in
    let b : eqb x 47 ≡ false = ne_eqb x 47 (λ e. omega (arith, e)) in
    rw (a, b) refl

plain_more : (x : ℕ) (s : List ℕ) → 47 < x → plain s ≡ true → plain (x ∷ s) ≡ true
unfolding plain
plain_more x s h p = rw (part-above x h) p

plain-none : plain [] ≡ true
unfolding plain
plain-none = refl

plain-decimal : (k x : ℕ) → plain (decimal k x) ≡ true
unfolding decimal
plain-decimal zero x = plain-none
plain-decimal (suc k) x = plain-append (decimal k (x / 10)) ((0x30 + x % 10) ∷ []) (plain-decimal k (x / 10)) (plain_more (0x30 + x % 10) []
    (omega arith) plain-none)

plain_hex : (x : ℕ) (s : List ℕ) → x < 16 → plain s ≡ true → plain (hex_digit x ∷ s) ≡ true
plain_hex x s h p = go (ltb x 10) refl
  where
    go : (y : Bool) → ltb x 10 ≡ y → plain (hex_digit x ∷ s) ≡ true
    go true e = rw e (plain_more (0x30 + x) s (omega arith) p)
    go false e = rw e (plain_more (0x57 + x) s (omega arith) p)

plain-hex8 : (n : ℕ) → plain (hex8 n) ≡ true
plain-hex8 n =
    plain_hex (n / 268435456 % 16) _ (omega arith) (plain_hex (n / 16777216 % 16) _ (omega arith) (plain_hex (n / 1048576 % 16) _ (omega arith)
    (plain_hex (n / 65536 % 16) _ (omega arith) (plain_hex (n / 4096 % 16) _ (omega arith) (plain_hex (n / 256 % 16) _ (omega arith)
    (plain_hex (n / 16 % 16) _ (omega arith) (plain_hex (n % 16) [] (omega arith) plain-none)))))))

plain-time : (n : ℕ) → plain (time_of n) ≡ true
unfolding time_of text_of
plain-time n =
    let i = instant_of n in
    plain-append (decimal 4 i.date.year) _ (plain-decimal 4 i.date.year)
    (plain-append (decimal 2 i.date.month) _ (plain-decimal 2 i.date.month)
    (plain-append (decimal 2 i.date.day) _ (plain-decimal 2 i.date.day)
    (plain_more 0x54 _ (omega arith) (plain-append (decimal 2 i.hour) _ (plain-decimal 2 i.hour)
    (plain-append (decimal 2 i.minute) _ (plain-decimal 2 i.minute)
    (plain-append (decimal 2 i.second) _ (plain-decimal 2 i.second) (plain_more 0x5A [] (omega arith) plain-none)))))))

hyphen_plain : (s : List ℕ) → plain s ≡ true → plain (0x2D ∷ s) ≡ true
unfolding plain part
hyphen_plain s p = p

session-first : (s : SessionId) → get_or (session_of s) 0 0 ≡ 46 → ⊥
unfolding session_name time_of text_of decimal
session-first s e = omega (arith, e)

session-name : (s : SessionId) → file_name (session_of s) ≡ true
unfolding session_name
session-name s =
    file_name_lem (session_of s) (omega (arith, length-session s)) (omega (arith, length-session s)) (session-first s)
    (plain-append (time_of s.clock) _ (plain-time s.clock) (hyphen_plain _ (plain-append (hex8 s.high) _ (plain-hex8 s.high) (plain-hex8
    s.low))))

record-first : (n : ℕ) → get_or (record_name n) 0 0 ≡ 46 → ⊥
unfolding record_name decimal
record-first n e = omega (arith, e)

record-plain : (n : ℕ) → plain (record_name n) ≡ true
unfolding record_name
record-plain n = plain-decimal 6 n

record-name : (n : ℕ) → file_name (record_name n) ≡ true
record-name n = file_name_lem (record_name n) (omega (arith, length-record n)) (omega (arith, length-record n)) (record-first n) (record-plain n)

part-first : (n : ℕ) → get_or (part_name n) 0 0 ≡ 46 → ⊥
unfolding part_name record_name decimal
part-first n e = omega (arith, e)

dotted : plain (0x2E ∷ 0x70 ∷ 0x61 ∷ 0x72 ∷ 0x74 ∷ []) ≡ true
unfolding plain part
dotted = refl

part-name : (n : ℕ) → file_name (part_name n) ≡ true
unfolding part_name
part-name n =
    let l = length-append (record_name n) (0x2E ∷ 0x70 ∷ 0x61 ∷ 0x72 ∷ 0x74 ∷ []) in
    file_name_lem (part_name n) (omega (arith, l, length-record n)) (omega (arith, l, length-record n)) (part-first n)
    (plain-append (record_name n) (0x2E ∷ 0x70 ∷ 0x61 ∷ 0x72 ∷ 0x74 ∷ []) (record-plain n) dotted)

word_archive : file_name (bytes "archive") ≡ true
unfolding file_name plain part
word_archive = refl

word-session : file_name (bytes "session") ≡ true
unfolding file_name plain part
word-session = refl

word-headers : file_name (bytes "headers") ≡ true
unfolding file_name plain part
word-headers = refl

word-body : file_name (bytes "body") ≡ true
unfolding file_name plain part
word-body = refl

word_note : file_name (bytes "note") ≡ true
unfolding file_name plain part
word_note = refl

word_rules : file_name (bytes "rules") ≡ true
unfolding file_name plain part
word_rules = refl

in_archive : (s : SessionId) (p : List ℕ) → Plain p → Plain (in_session s p)
in_archive s p q = more (bytes "archive") (in_folder (session_of s) p) _ word_archive (more (session_of s) p _ (session-name s) q refl) refl

in_part : (s : SessionId) (n : ℕ) (w : List ℕ) → file_name w ≡ true → Plain (in_session s (in_folder (part_name n) w))
in_part s n w e = in_archive s (in_folder (part_name n) w) (more (part_name n) w _ (part-name n) (one w e) refl)

pub record_paths_plain : RecordPathsPlain
unfolding below
record_paths_plain s n Archive = one (bytes "archive") word_archive
record_paths_plain s n Session = more (bytes "archive") (session_of s) _ word_archive (one (session_of s) (session-name s)) refl
record_paths_plain s n Log = in_archive s (bytes "session") (one (bytes "session") word-session)
record_paths_plain s n Part = in_archive s (part_name n) (one (part_name n) (part-name n))
record_paths_plain s n Headers = in_part s n (bytes "headers") word-headers
record_paths_plain s n Body = in_part s n (bytes "body") word-body
record_paths_plain s n Note = in_part s n (bytes "note") word_note
record_paths_plain s n Record = in_archive s (record_name n) (one (record_name n) (record-name n))

-- ---- the folder of a service, and rule files

plain_digits : (l : List ℕ) → plain (hex_of l) ≡ true
unfolding hex_of
plain_digits [] = plain-none
plain_digits (b ∷ l) = plain_hex (b / 16 % 16) _ (omega arith) (plain_hex (b % 16) _ (omega arith) (plain_digits l))

word_service : plain service_word ≡ true
unfolding plain part
word_service = refl

service_name : (g : Target) → is_named g ≡ true → file_name (service_folder g) ≡ true
unfolding service_folder
service_name g e =
    let l = take g.length (octets16 g.bytes) in
    let n = length-append service_word (hex_of l) in
    let m = hex_size l in
    let k = take_short g.length (octets16 g.bytes) in
    rw e (file_name_lem (service_word ++ hex_of l) (omega (arith, n)) (omega (arith, n, m, k, named-short g e)) (λ z. omega (arith, z))
    (plain-append service_word (hex_of l) word_service (plain_digits l)))

pub rule_paths_plain : RulePathsPlain
rule_paths_plain g name e = go (is_named g) refl
  where
    inner : (y : Bool) → is_named g ≡ y → Plain (in_folder (service_folder g) name)
    inner true t = more (service_folder g) name _ (service_name g t) (one name e) refl
    inner false t = subst (λ (p : List ℕ). Plain p) (sym (joined-name (service_folder g) name (ap length (sym (mark_folder g t))))) (one name e)

    go : (y : Bool) → is_named g ≡ y → Plain (in_folder (bytes "rules") (in_folder (service_folder g) name))
    go y t = more (bytes "rules") (in_folder (service_folder g) name) _ word_rules (inner y t) refl

-- ---- two records have two paths

joined_same : (f a b : List ℕ) → in_folder f a ≡ in_folder f b → a ≡ b
unfolding in_folder
joined_same [] a b e = e
joined_same (x ∷ f) a b e = cut (x ∷ f) e
  where
    cut : (p : List ℕ) → p ++ (0x2F ∷ a) ≡ p ++ (0x2F ∷ b) → a ≡ b
    cut p q =
        sym (drop_at (p ++ (0x2F ∷ [])) a (length (p ++ (0x2F ∷ []))) refl) ∙ ap (drop (length (p ++ (0x2F ∷ [])))) (append_assoc p (0x2F ∷ []) a
        ∙ q ∙ sym (append_assoc p (0x2F ∷ []) b))
        ∙ drop_at (p ++ (0x2F ∷ [])) b (length (p ++ (0x2F ∷ []))) refl

pub record_paths_apart : RecordPathsApart
unfolding record_path below
record_paths_apart f s m n h k e =
    record-names.one m n h k (joined_same (session_of s) (record_name m) (record_name n)
    (joined_same (bytes "archive") (in_folder (session_of s) (record_name m)) (in_folder (session_of s) (record_name n))
    (joined_same f (in_session s (record_name m)) (in_session s (record_name n)) e)))
