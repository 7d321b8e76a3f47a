-- The laws of digest authentication: the walk of the readers, and what the parts that they read say of the whole. Assumes nothing.
use mathlib.Core.Path.{◌≡◌, refl, sym, ap, ap₂, ◌∙◌}
use mathlib.Core.Bool.{Bool, true, false, ◌&&◌, and-false}
use mathlib.Core.List.{List, [], ◌∷◌, ◌++◌}
use mathlib.Core.Option.{Option, none, some}
use Prim.Native.Nat.{ℕ, zero, suc, ◌+◌, ◌-◌, ◌≤◌, ◌<◌, ◌^◌}
use native.Mathlib.Omega.{arith}
use lib.ListN.{length, get_or, take, drop, length-drop}
use lib.Seq.{length-take-le, get_or-take, get_or-drop}
use lib.Dec.{eqb, ltb}
use lib.Bits.{bit_or, bit_xor, or_add_and, or_comm, xor_add_and, xor_self, and_le_l, and_le_r}
use borrow.Author.Tests.{ne_eqb, eqb-true, eqb-false, lt-ltb, le-ltb, ltb-true, ltb-false}
use Rattle.base.specs.Pick.{pick}
use Rattle.std.specs.Prelude.{Option as Maybe}
use Rattle.base.specs.Place.{Place, Some, None}
use Rattle.digest.specs.Md5.{octets16, numbers16, request_digest}
use Rattle.digest.specs.declared.md5.Octets16.{Octets16}
use Rattle.digest.proofs.Octets.{numbers-octets, octets-digest, length-digest}
use Rattle.packet.specs.declared.auth.DigestResponse.{DigestResponse}
use Rattle.packet.specs.declared.auth.DigestChallenge.{DigestChallenge}
use Rattle.packet.specs.Tags.{Tag, Tags, unreadable, tag_list, push, tags, counts, last_value, bytes_at, last_bytes, last_of}
use Rattle.packet.specs.Auth.{Response, Challenge, response_end, named16, response_from, response_in, response_of, challenge_end, challenge_from, challenge_in, challenge_of, realm_place, user_id_required_of, read_only_of, same, matches, has_user, verified}
use Rattle.packet.specs.AuthRead.{Named, named_of, digest_response, response_read, read_response, digest_challenge, challenge_read, read_challenge, sixteen_or, all_sixteen, sixteen_in, sixteen_at, tag_zero, options_at, is_filled}
use Rattle.packet.proofs.SameBytes.{same_self, same-equal}
use Rattle.packet.proofs.TagLaws.{Here, value-length}
use Rattle.packet.proofs.TagWrites.{Within, last_within, last-under-bytes}

-- ---- steps of the cursor

sixteen-push : (t : Tag) (r : Tags) → sixteen_in (push t r) ≡ (sixteen_or t.tag (length t.value) && sixteen_in r)
unfolding all_sixteen
sixteen-push t unreadable = sym (and-false (sixteen_or t.tag (length t.value)))
sixteen-push t (tag_list ts) = refl

pub sixteen-here : (s : List ℕ) (at t b n : ℕ) → Here s at t b n
    → sixteen_in (tags (drop at s)) ≡ (sixteen_or t (n - b) && sixteen_in (tags (drop n s)))
sixteen-here s at t b n h =
    ap sixteen_in h.list
    ∙ sixteen-push (record { tag = t; value = take (n - b) (drop b s) }) (tags (drop n s))
    ∙ ap (λ (m : ℕ). sixteen_or t m && sixteen_in (tags (drop n s))) (value-length s at t b n h)

-- ---- a place that was found lies within the list

pub within : (s : List ℕ) (want : ℕ) → Within s (last_value s want)
unfolding last_value
within s want = last_within s want true

pub realm-within : (s : List ℕ) → Within s (realm_place s)
unfolding realm_place
realm-within s = last_within s 2 false

-- ---- the parts as bytes

-- a value of 16 bytes, or none
abbrev only16 : Option (List ℕ) → Option (List ℕ)
only16 none = none
only16 (some v) = named16 v

abbrev options_of : Option (List ℕ) → ℕ
options_of none = 0
options_of (some v) = get_or v 0 0

sixteen-some : (v : List ℕ) (b e : ℕ) (x : Bool) → eqb (e - b) 16 ≡ x → eqb (length (take (e - b) (drop b v))) 16 ≡ x
    → pick x (Some (numbers16 (take 16 (drop b v)))) None ≡ named_of (pick x (some (take (e - b) (drop b v))) none)
sixteen-some v b e false p q = refl
sixteen-some v b e true p q = ap (λ (m : ℕ). Some (numbers16 (take m (drop b v)))) (sym (eqb-true (e - b) 16 p))

sixteen-bytes : (v : List ℕ) (f : Place) → Within v f → sixteen_at v f ≡ named_of (only16 (bytes_at v f))
sixteen-bytes v None w = refl
sixteen-bytes v (Some p) w =
    let l : length (take (p.end - p.start) (drop p.start v)) ≡ p.end - p.start = length-take-le (p.end - p.start) (drop p.start v) (omega (arith, length-drop p.start v, w.0, w.1)) in
    let q : eqb (length (take (p.end - p.start) (drop p.start v))) 16 ≡ eqb (p.end - p.start) 16 = ap (λ (m : ℕ). eqb m 16) l in
    rw q (sixteen-some v p.start p.end (eqb (p.end - p.start) 16) refl q)

options-some : (v : List ℕ) (b e : ℕ) (x : Bool) → ltb b e ≡ x → pick x (get_or v b 0) 0 ≡ get_or (take (e - b) (drop b v)) 0 0
options-some v b e true p =
    let h : b < e = ltb-true b e p in
    let z : b + 0 ≡ b = omega arith in
    sym (get_or-take (e - b) (drop b v) 0 0 (omega arith) ∙ get_or-drop b v 0 0 ∙ ap (λ (m : ℕ). get_or v m 0) z)
options-some v b e false p =
    let h : e ≤ b = ltb-false b e p in
    let z : e - b ≡ 0 = omega arith in
    rw z

options-bytes : (v : List ℕ) (f : Place) → options_at v f ≡ options_of (bytes_at v f)
options-bytes v None = refl
options-bytes v (Some p) = options-some v p.start p.end (ltb p.start p.end) refl

last-bytes : (v : List ℕ) (want : ℕ) → bytes_at v (last_value v want) ≡ last_of want true (tags v)
unfolding last_value
last-bytes v want = last-under-bytes v want true

pub sixteen-last : (v : List ℕ) (want : ℕ) → sixteen_at v (last_value v want) ≡ named_of (only16 (last_of want true (tags v)))
sixteen-last v want = sixteen-bytes v (last_value v want) (within v want) ∙ ap (λ (o : Option (List ℕ)). named_of (only16 o)) (last-bytes v want)

pub options-last : (v : List ℕ) → options_at v (last_value v 1) ≡ options_of (last_of 1 true (tags v))
options-last v = options-bytes v (last_value v 1) ∙ ap options_of (last-bytes v 1)

-- ---- one more tag

-- tag 0, given what the rest reads as: 16 bytes long, or the whole is unreadable
tag0 : {A : Type 0} (v : List ℕ) (x all : Bool) (f g : Option (List ℕ) → Option A) → eqb (length v) 16 ≡ x
    → ((o : Option (List ℕ)) → f (only16 o) ≡ pick all (g o) none) → pick x (f (some v)) none ≡ pick (x && all) (g (some v)) none
tag0 v false all f g e on = refl
tag0 v true all f g e on = let k : only16 (some v) ≡ some v = rw e in ap f (sym k) ∙ on (some v)

-- a tag that no reader knows
unknown : (k : ℕ) → let n = suc (suc (suc k)) in (eqb n 0 ≡ false) × (eqb n 1 ≡ false) × (eqb n 2 ≡ false)
unknown k =
    let n = suc (suc (suc k)) in
    (ne_eqb n 0 (λ (q : n ≡ 0). omega arith), ne_eqb n 1 (λ (q : n ≡ 1). omega arith), ne_eqb n 2 (λ (q : n ≡ 2). omega arith))

-- ---- the response

response-tag : (k : ℕ) (v : List ℕ) (ts : List Tag) (d u n : Option (List ℕ))
    → ((d u n : Option (List ℕ)) → response_from ts (only16 d) u (only16 n) ≡ pick (all_sixteen ts) (response_end (only16 (last_bytes 0 true d ts)) (last_bytes 1 true u ts) (only16 (last_bytes 2 true n ts))) none)
    → pick (eqb k 0) (pick (eqb (length v) 16) (response_from ts (some v) u (only16 n)) none)
    (pick (eqb k 1) (response_from ts (only16 d) (some v) (only16 n))
    (pick (eqb k 2) (response_from ts (only16 d) u (named16 v))
    (response_from ts (only16 d) u (only16 n))))
    ≡ pick (sixteen_or k (length v) && all_sixteen ts)
    (response_end (only16 (last_bytes 0 true (pick (counts 0 true k (length v)) (some v) d) ts))
    (last_bytes 1 true (pick (counts 1 true k (length v)) (some v) u) ts)
    (only16 (last_bytes 2 true (pick (counts 2 true k (length v)) (some v) n) ts))) none
response-tag zero v ts d u n on =
    tag0 v (eqb (length v) 16) (all_sixteen ts) (λ o. response_from ts o u (only16 n))
    (λ o. response_end (only16 (last_bytes 0 true o ts)) (last_bytes 1 true u ts) (only16 (last_bytes 2 true n ts))) refl (λ o. on o u n)
response-tag (suc zero) v ts d u n on = on d (some v) n
response-tag (suc (suc zero)) v ts d u n on = on d u (some v)
response-tag (suc (suc (suc k))) v ts d u n on = let w = unknown k in rw (w.0, w.1, w.2) (on d u n)

-- the response of a list by its last values
pub response-from : (ts : List Tag) (d u n : Option (List ℕ))
    → response_from ts (only16 d) u (only16 n)
    ≡ pick (all_sixteen ts) (response_end (only16 (last_bytes 0 true d ts)) (last_bytes 1 true u ts) (only16 (last_bytes 2 true n ts))) none
unfolding response_from all_sixteen last_bytes
response-from [] d u n = refl
response-from (t ∷ ts) d u n = response-tag t.tag t.value ts d u n (response-from ts)

-- what the reader makes of the parts
abbrev pub response_by : Named → Place → Named → Maybe DigestResponse
response_by None u n = None
response_by (Some d) u n = digest_response d u n

response-ends : (x : Bool) (d u n : Option (List ℕ)) (at : Place)
    → response_read (pick x (response_end d u n) none) at ≡ response_by (pick x (named_of d) None) at (named_of n)
response-ends false d u n at = refl
response-ends true none u n at = refl
response-ends true (some d) u n at = refl

response_in_lem : (r : Tags) (at : Place)
    → response_read (response_in r) at
    ≡ response_by (pick (sixteen_in r) (named_of (only16 (last_of 0 true r))) None) at (named_of (only16 (last_of 2 true r)))
response_in_lem unreadable at = refl
response_in_lem (tag_list ts) at =
    ap (λ (o : Option Response). response_read o at) (response-from ts none none none)
    ∙ response-ends (all_sixteen ts) (only16 (last_bytes 0 true none ts)) (last_bytes 1 true none ts) (only16 (last_bytes 2 true none ts)) at

pub response-parts : (v : List ℕ)
    → read_response v
    ≡ response_by (tag_zero v) (last_value v 1) (sixteen_at v (last_value v 2))
unfolding read_response response_of tag_zero
response-parts v = rw (sixteen-last v 0, sixteen-last v 2) (response_in_lem (tags v) (last_value v 1))

-- the user id's place holds the response's user id
user-end : (x : Bool) (d u n : Option (List ℕ)) (a : Response) → pick x (response_end d u n) none ≡ some a → a.user ≡ u
user-end false d u n a e = let z : ◌≡◌ {A = ℕ} 0 1 = cc in absurd (omega arith)
user-end true none u n a e = let z : ◌≡◌ {A = ℕ} 0 1 = cc in absurd (omega arith)
user-end true (some d) u n a e = let k : record { digest = d; user = u; nonce = n } ≡ a = cc in ap (λ (r : Response). r.user) (sym k)

user_in_lem : (r : Tags) (a : Response) → response_in r ≡ some a → a.user ≡ last_of 1 true r
user_in_lem unreadable a e = let z : ◌≡◌ {A = ℕ} 0 1 = cc in absurd (omega arith)
user_in_lem (tag_list ts) a e =
    user-end (all_sixteen ts) (only16 (last_bytes 0 true none ts)) (last_bytes 1 true none ts) (only16 (last_bytes 2 true none ts)) a
    (sym (response-from ts none none none) ∙ e)

pub user_place_lem : (v : List ℕ) (a : Response) → response_of v ≡ some a → bytes_at v (last_value v 1) ≡ a.user
unfolding response_of
user_place_lem v a e = last-bytes v 1 ∙ sym (user_in_lem (tags v) a e)

filled-bytes : (v : List ℕ) (f : Place) → Within v f → is_filled f ≡ has_user (bytes_at v f)
filled-bytes v None w = refl
filled-bytes v (Some q) w =
    let l : length (take (q.end - q.start) (drop q.start v)) ≡ q.end - q.start = length-take-le (q.end - q.start) (drop q.start v) (omega (arith, length-drop q.start v, w.0, w.1)) in
    sym (ap (λ (m : ℕ). ltb 0 m) l ∙ filled_by (ltb q.start q.end) refl)
  where
    filled_by : (x : Bool) → ltb q.start q.end ≡ x → ltb 0 (q.end - q.start) ≡ x
    filled_by true p = lt-ltb 0 (q.end - q.start) (let h = ltb-true q.start q.end p in omega arith)
    filled_by false p = le-ltb 0 (q.end - q.start) (let h = ltb-false q.start q.end p in omega arith)

-- the user id's place is filled exactly if the response has a user id that is not empty
pub filled-user : (v : List ℕ) (a : Response) → response_of v ≡ some a → is_filled (last_value v 1) ≡ has_user a.user
filled-user v a e = filled-bytes v (last_value v 1) (within v 1) ∙ ap has_user (user_place_lem v a e)

-- if no user id is demanded, the check is the source's
pub verified_off : (n : List ℕ) (r : Response) (p : List ℕ) → verified false n r p ≡ matches n r p
unfolding verified
verified_off n r p = refl

-- ---- the challenge

filled : (v : List ℕ) (r : Option (List ℕ)) → pick (eqb (length v) 0) r (some v) ≡ pick (ltb 0 (length v)) (some v) r
filled [] r = refl
filled (b ∷ v) r = rw (ne_eqb (suc (length v)) 0 (λ (q : suc (length v) ≡ 0). omega arith), lt-ltb 0 (suc (length v)) (omega arith))

challenge-tag : (k : ℕ) (v : List ℕ) (ts : List Tag) (n o r : Option (List ℕ))
    → ((n o r : Option (List ℕ)) → challenge_from ts (only16 n) (options_of o) r ≡ pick (all_sixteen ts) (challenge_end (only16 (last_bytes 0 true n ts)) (options_of (last_bytes 1 true o ts)) (last_bytes 2 false r ts)) none)
    → pick (eqb k 0) (pick (eqb (length v) 16) (challenge_from ts (some v) (options_of o) r) none)
    (pick (eqb k 1) (challenge_from ts (only16 n) (get_or v 0 0) r)
    (pick (eqb k 2) (challenge_from ts (only16 n) (options_of o) (pick (eqb (length v) 0) r (some v)))
    (challenge_from ts (only16 n) (options_of o) r)))
    ≡ pick (sixteen_or k (length v) && all_sixteen ts)
    (challenge_end (only16 (last_bytes 0 true (pick (counts 0 true k (length v)) (some v) n) ts)) (options_of (last_bytes 1 true (pick (counts 1 true k (length v)) (some v) o) ts)) (last_bytes 2 false (pick (counts 2 false k (length v)) (some v) r) ts)) none
challenge-tag zero v ts n o r on =
    tag0 v (eqb (length v) 16) (all_sixteen ts) (λ m. challenge_from ts m (options_of o) r)
    (λ m. challenge_end (only16 (last_bytes 0 true m ts)) (options_of (last_bytes 1 true o ts)) (last_bytes 2 false r ts)) refl (λ m. on m o r)
challenge-tag (suc zero) v ts n o r on = on n (some v) r
challenge-tag (suc (suc zero)) v ts n o r on =
    ap (challenge_from ts (only16 n) (options_of o)) (filled v r) ∙ on n o (pick (ltb 0 (length v)) (some v) r)
challenge-tag (suc (suc (suc k))) v ts n o r on = let w = unknown k in rw (w.0, w.1, w.2) (on n o r)

-- the challenge of a list by its last values
challenge-from : (ts : List Tag) (n o r : Option (List ℕ))
    → challenge_from ts (only16 n) (options_of o) r
    ≡ pick (all_sixteen ts) (challenge_end (only16 (last_bytes 0 true n ts)) (options_of (last_bytes 1 true o ts)) (last_bytes 2 false r ts)) none
unfolding challenge_from all_sixteen last_bytes
challenge-from [] n o r = refl
challenge-from (t ∷ ts) n o r = challenge-tag t.tag t.value ts n o r (challenge-from ts)

-- what the reader makes of the parts
abbrev pub challenge_by : Named → ℕ → Place → Maybe DigestChallenge
challenge_by None o r = None
challenge_by (Some n) o r = digest_challenge n (user_id_required_of o) (read_only_of o) r

challenge-ends : (x : Bool) (n r : Option (List ℕ)) (o : ℕ) (at : Place)
    → challenge_read (pick x (challenge_end n o r) none) at ≡ challenge_by (pick x (named_of n) None) o at
challenge-ends false n r o at = refl
challenge-ends true none r o at = refl
challenge-ends true (some n) r o at = refl

challenge_in_lem : (r : Tags) (at : Place)
    → challenge_read (challenge_in r) at
    ≡ challenge_by (pick (sixteen_in r) (named_of (only16 (last_of 0 true r))) None) (options_of (last_of 1 true r)) at
challenge_in_lem unreadable at = refl
challenge_in_lem (tag_list ts) at =
    ap (λ (o : Option Challenge). challenge_read o at) (challenge-from ts none none none)
    ∙ challenge-ends (all_sixteen ts) (only16 (last_bytes 0 true none ts)) (last_bytes 2 false none ts) (options_of (last_bytes 1 true none ts)) at

pub challenge-parts : (v : List ℕ)
    → read_challenge v
    ≡ challenge_by (tag_zero v) (options_at v (last_value v 1)) (realm_place v)
unfolding read_challenge challenge_of tag_zero
challenge-parts v = rw (sixteen-last v 0, options-last v) (challenge_in_lem (tags v) (realm_place v))

-- the realm's place holds the challenge's realm
realm-end : (x : Bool) (n r : Option (List ℕ)) (o : ℕ) (a : Challenge) → pick x (challenge_end n o r) none ≡ some a → r ≡ a.realm
realm-end false n r o a e = let z : ◌≡◌ {A = ℕ} 0 1 = cc in absurd (omega arith)
realm-end true none r o a e = let z : ◌≡◌ {A = ℕ} 0 1 = cc in absurd (omega arith)
realm-end true (some n) r o a e = let k : record { nonce = n; options = o; realm = r } ≡ a = cc in ap (λ (c : Challenge). c.realm) k

realm_in_lem : (r : Tags) (a : Challenge) → challenge_in r ≡ some a → last_of 2 false r ≡ a.realm
realm_in_lem unreadable a e = let z : ◌≡◌ {A = ℕ} 0 1 = cc in absurd (omega arith)
realm_in_lem (tag_list ts) a e =
    realm-end (all_sixteen ts) (only16 (last_bytes 0 true none ts)) (last_bytes 2 false none ts) (options_of (last_bytes 1 true none ts)) a
    (sym (challenge-from ts none none none) ∙ e)

pub realm_place_lem : (v : List ℕ) (a : Challenge) → challenge_of v ≡ some a → bytes_at v (realm_place v) ≡ a.realm
unfolding challenge_of realm_place
realm_place_lem v a e = last-under-bytes v 2 false ∙ realm_in_lem (tags v) a e

-- ---- equal bytes

-- values whose bytes are the same are the same
octets-equal : (a b : Octets16) → a.first < 2 ^ 64 → a.second < 2 ^ 64 → b.first < 2 ^ 64 → b.second < 2 ^ 64
    → same (octets16 a) (octets16 b) ≡ true → a ≡ b
octets-equal a b p q r s e = sym (numbers-octets a p q) ∙ ap numbers16 (same-equal (octets16 a) (octets16 b) e) ∙ numbers-octets b r s

octets_by : (a b : Octets16) → a.first < 2 ^ 64 → a.second < 2 ^ 64 → b.first < 2 ^ 64 → b.second < 2 ^ 64
    → (x y z : Bool) → eqb a.first b.first ≡ x → eqb a.second b.second ≡ y → same (octets16 a) (octets16 b) ≡ z → z ≡ (x && y)
octets_by a b p q r s true true z f g e =
    let k : a ≡ b = ap₂ (λ (x y : ℕ). record { first = x; second = y }) (eqb-true a.first b.first f) (eqb-true a.second b.second g) in
    sym e ∙ ap (λ (n : Octets16). same (octets16 n) (octets16 b)) k ∙ same_self (octets16 b)
octets_by a b p q r s true false false f g e = refl
octets_by a b p q r s false y false f g e = refl
octets_by a b p q r s true false true f g e =
    absurd (eqb-false a.second b.second g (ap (λ (n : Octets16). n.second) (octets-equal a b p q r s e)))
octets_by a b p q r s false y true f g e =
    absurd (eqb-false a.first b.first f (ap (λ (n : Octets16). n.first) (octets-equal a b p q r s e)))

pub octets-same : (a b : Octets16) → a.first < 2 ^ 64 → a.second < 2 ^ 64 → b.first < 2 ^ 64 → b.second < 2 ^ 64
    → same (octets16 a) (octets16 b) ≡ (eqb a.first b.first && eqb a.second b.second)
octets-same a b p q r s = octets_by a b p q r s (eqb a.first b.first) (eqb a.second b.second) (same (octets16 a) (octets16 b)) refl refl refl

-- numbers of which no bit differs are equal: what two numbers have in common is at most each of them, and here it is half of their sum
xor_none : (a b : ℕ) → bit_xor a b ≡ 0 → a ≡ b
xor_none a b e =
    let sum = xor_add_and a b in
    let left = and_le_l a b in
    let right = and_le_r a b in
    omega arith

-- no bit of either number is set if none of the two together is
or_none_l : (a b : ℕ) → bit_or a b ≡ 0 → a ≡ 0
or_none_l a b e =
    let sum = or_add_and a b in
    let right = and_le_r a b in
    omega arith

or_none_r : (a b : ℕ) → bit_or a b ≡ 0 → b ≡ 0
or_none_r a b e = or_none_l b a (or_comm b a ∙ e)

-- the differences of two pairs of numbers, taken together, are none exactly if both pairs are equal
pub differ_none : (a b c d : ℕ) → eqb (bit_or (bit_xor a b) (bit_xor c d)) 0 ≡ (eqb a b && eqb c d)
differ_none a b c d = by (eqb a b) (eqb c d) (eqb (bit_or (bit_xor a b) (bit_xor c d)) 0) refl refl refl
  where
    by : (x y z : Bool) → eqb a b ≡ x → eqb c d ≡ y → eqb (bit_or (bit_xor a b) (bit_xor c d)) 0 ≡ z → z ≡ (x && y)
    by true true true p q r = refl
    by true true false p q r =
        absurd (eqb-false (bit_or (bit_xor a b) (bit_xor c d)) 0 r (rw (eqb-true a b p, eqb-true c d q, xor_self b, xor_self d)))
    by true false false p q r = refl
    by true false true p q r =
        absurd (eqb-false c d q (xor_none c d (or_none_r (bit_xor a b) (bit_xor c d) (eqb-true (bit_or (bit_xor a b) (bit_xor c d)) 0 r))))
    by false y false p q r = refl
    by false y true p q r =
        absurd (eqb-false a b p (xor_none a b (or_none_l (bit_xor a b) (bit_xor c d) (eqb-true (bit_or (bit_xor a b) (bit_xor c d)) 0 r))))

-- a digest's value has the digest's bytes
pub octets-request : (n p : List ℕ) → octets16 (numbers16 (request_digest n p)) ≡ request_digest n p
unfolding request_digest
octets-request n p = octets-digest (n ++ (0x3A ∷ p))

pub length-request : (n p : List ℕ) → length (request_digest n p) ≡ 16
unfolding request_digest
length-request n p = length-digest (n ++ (0x3A ∷ p))
