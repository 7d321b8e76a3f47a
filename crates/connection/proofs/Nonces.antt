-- A challenge that was read has a nonce of sixteen bytes, so that its two numbers say all of it. Assumes nothing.
use Rattle.std.proofs.Common.{◌≡◌, ℕ, zero, suc, ◌+◌, ◌-◌, Bool, true, false, eqb, List, [], ◌∷◌, ◌++◌, length, get_or, take, drop, refl, ◌∙◌, arith, get_or-drop, eqb-true}
use mathlib.Core.Option.{Option, none, some}
use Rattle.base.specs.Pick.{pick}
use Rattle.base.specs.Place.{Place, Some, None}
use Rattle.digest.specs.Md5.{octets16, numbers16}
use Rattle.digest.proofs.Octets.{are_bytes, octets-numbers}
use Rattle.packet.specs.Header.{Header, read_headers, first, first_place}
use Rattle.packet.specs.Tags.{Tag, Tags, unreadable, tag_list, tags, write_tags, bytes_at}
use Rattle.packet.specs.Auth.{Challenge, challenge_from, challenge_in, challenge_of}
use Rattle.packet.proofs.HeaderBytes.{Octets}
use Rattle.packet.proofs.HeaderLaws.{first-agrees}
use Rattle.packet.proofs.TextForms.{octets-take}
use Rattle.packet.proofs.TagWrites.{read_write}
use Rattle.journal.specs.Journal.{list_of}
use Rattle.connection.specs.ConnectReply.{push_challenge, challenges, first_of, answered_challenge}
use Rattle.connection.specs.Pieces.{headers_from}

-- ---- parts of bytes are bytes

octets-left : (a b : List ℕ) → Octets (a ++ b) → Octets a
octets-left [] b o k = omega arith
octets-left (x ∷ a) b o zero = o zero
octets-left (x ∷ a) b o (suc k) = octets-left a b (λ j. o (suc j)) k

octets-right : (a b : List ℕ) → Octets (a ++ b) → Octets b
octets-right [] b o = o
octets-right (x ∷ a) b o = octets-right a b (λ j. o (suc j))

octets-drop : (n : ℕ) (l : List ℕ) → Octets l → Octets (drop n l)
octets-drop n l o k = rw (get_or-drop n l k 0) (o (n + k))

-- ---- the tags of a list of bytes

abbrev pub AllOctets : List Tag → Type 0
AllOctets [] = Unit {0}
AllOctets (t ∷ ts) = Octets t.value × AllOctets ts

pub all-octets : (ts : List Tag) → Octets (write_tags ts) → AllOctets ts
unfolding write_tags
all-octets [] o = tt
all-octets (t ∷ ts) o =
    let r : Octets (t.value ++ write_tags ts) = λ k. o (suc (suc k)) in
    (octets-left t.value (write_tags ts) r, all-octets ts (octets-right t.value (write_tags ts) r))

-- ---- the nonce

abbrev pub Sixteen : List ℕ → Type 0
Sixteen l = (length l ≡ 16) × Octets l

abbrev pub Good : Option (List ℕ) → Type 0
Good none = Unit {0}
Good (some l) = Sixteen l

from-nonce : (ts : List Tag) (n : Option (List ℕ)) (o : ℕ) (r : Option (List ℕ)) (c : Challenge) → AllOctets ts → Good n → challenge_from ts n o r ≡ some c
    → Sixteen c.nonce
unfolding challenge_from
from-nonce [] none o r c a g e = absurd (let z : ◌≡◌ {A = ℕ} 0 1 = cc in omega arith)
from-nonce [] (some n) o r c a g e =
    let k : record { nonce = n; options = o; realm = r } ≡ c = cc in
    rw (← k) g
from-nonce (t ∷ ts) n o r c a g e =
    go (eqb t.tag 0) (eqb (length t.value) 16) (eqb t.tag 1) (eqb t.tag 2) refl (λ n o r. from-nonce ts n o r c a.1) e
  where
    go : (x y z w : Bool) → eqb (length t.value) 16 ≡ y
        → ((n : Option (List ℕ)) (o : ℕ) (r : Option (List ℕ)) → Good n → challenge_from ts n o r ≡ some c → Sixteen c.nonce)
        → pick x (pick y (challenge_from ts (some t.value) o r) none)
        (pick z (challenge_from ts n (get_or t.value 0 0) r)
        (pick w (challenge_from ts n o (pick (eqb (length t.value) 0) r (some t.value))) (challenge_from ts n o r)))
        ≡ some c → Sixteen c.nonce
    go true true z w q on d = on (some t.value) o r (eqb-true (length t.value) 16 q, a.0) d
    go true false z w q on d = absurd (let z : ◌≡◌ {A = ℕ} 0 1 = cc in omega arith)
    go false y true w q on d = on n (get_or t.value 0 0) r g d
    go false y false true q on d = on n o (pick (eqb (length t.value) 0) r (some t.value)) g d
    go false y false false q on d = on n o r g d

challenge-nonce : (v : List ℕ) (c : Challenge) → Octets v → challenge_of v ≡ some c → Sixteen c.nonce
unfolding challenge_of
challenge-nonce v c o e = go (tags v) refl e
  where
    go : (r : Tags) → tags v ≡ r → challenge_in r ≡ some c → Sixteen c.nonce
    go unreadable q d = absurd (let z : ◌≡◌ {A = ℕ} 0 1 = cc in omega arith)
    go (tag_list ts) q d = from-nonce ts none 0 none c (all-octets ts (rw (read_write v ts q) o)) tt d

-- ---- the answered one stands in the packet

answered-value : (hs : List Header) (c : Challenge) (P : List ℕ → Type 0) → ((v : List ℕ) → first 0x4D hs ≡ some v → P v)
    → answered_challenge hs ≡ some c → ((v : List ℕ) → P v → challenge_of v ≡ some c → Sixteen c.nonce) → Sixteen c.nonce
unfolding answered_challenge challenges first
answered-value [] c P f e k = absurd (let z : ◌≡◌ {A = ℕ} 0 1 = cc in omega arith)
answered-value (h ∷ hs) c P f e k = go (eqb h.id 0x4D) (challenge_of h.value) (challenges hs) refl f e (answered-value hs c P)
  where
    go : (b : Bool) (o : Option Challenge) (cs : Option (List Challenge)) → challenge_of h.value ≡ o
        → ((v : List ℕ) → pick b (some h.value) (first 0x4D hs) ≡ some v → P v)
        → first_of (pick b (push_challenge o cs) cs) ≡ some c
        → (((v : List ℕ) → first 0x4D hs ≡ some v → P v) → first_of cs ≡ some c → ((v : List ℕ) → P v → challenge_of v ≡ some c → Sixteen c.nonce) → Sixteen c.nonce)
        → Sixteen c.nonce
    go false o cs q g d ih = ih g d k
    go true none cs q g d ih = absurd (let z : ◌≡◌ {A = ℕ} 0 1 = cc in omega arith)
    go true (some x) none q g d ih = absurd (let z : ◌≡◌ {A = ℕ} 0 1 = cc in omega arith)
    go true (some x) (some cs) q g d ih = k h.value (g h.value refl) (q ∙ d)

pub answered-nonce : (s : List ℕ) (from : ℕ) (c : Challenge) → Octets s → answered_challenge (headers_from s from) ≡ some c
    → octets16 (numbers16 c.nonce) ≡ c.nonce
unfolding first
answered-nonce s from c o e =
    let w : Sixteen c.nonce = go (read_headers s from) refl e in
    octets-numbers c.nonce w.0 (are_bytes c.nonce w.1)
  where
    nothing : (v : List ℕ) → first 0x4D [] ≡ some v → ⊥
    nothing v p = let z : ◌≡◌ {A = ℕ} 0 1 = cc in omega arith

    placed : (f : Place) (v : List ℕ) → bytes_at s f ≡ some v → Octets v
    placed None v q = absurd (let z : ◌≡◌ {A = ℕ} 0 1 = cc in omega arith)
    placed (Some p) v q =
        let k : take (p.end - p.start) (drop p.start s) ≡ v = cc in
        rw (← k) (octets-take (drop p.start s) (p.end - p.start) (octets-drop p.start s o))

    go : (r : Option (List Header)) → read_headers s from ≡ r → answered_challenge (list_of r) ≡ some c → Sixteen c.nonce
    go none q d = answered-value [] c (λ (v : List ℕ). Octets v) (λ v p. absurd (nothing v p)) d (λ v p m. challenge-nonce v c p m)
    go (some hs) q d =
        answered-value hs c (λ (v : List ℕ). Octets v) (λ v p. placed (first_place 0x4D s from) v (first-agrees 0x4D s from hs q ∙ p)) d
        (λ v p m. challenge-nonce v c p m)
