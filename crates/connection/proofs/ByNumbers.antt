-- For the engine: what the code says by numbers is what the definitions say by bytes. Assumes nothing.
use Rattle.std.proofs.Common.{◌≡◌, ℕ, Bool, true, false, eqb, List, [], ◌∷◌, length, refl, ap, arith, eqb-true}
use mathlib.Core.Option.{Option, none, some}
use Rattle.std.specs.Prelude.{Some, None}
use Rattle.base.specs.Pick.{pick}
use Rattle.digest.specs.Md5.{octets16, numbers16}
use Rattle.digest.proofs.Octets.{are_bytes, octets-numbers}
use Rattle.packet.specs.Tags.{Tag, Tags, unreadable, tag_list, tags, last_value}
use Rattle.packet.specs.Auth.{Response, named16, response_from, response_in, response_of, matches, verified}
use Rattle.packet.specs.AuthRead.{named_of, bytes_named, response_read, read_response}
use Rattle.packet.proofs.HeaderBytes.{Octets}
use Rattle.packet.proofs.TagWrites.{read_write}
use Rattle.packet.proofs.AuthLaws.{filled-user}
use Rattle.connection.specs.declared.peer.Peer.{Peer}
use Rattle.connection.specs.Peer.{target_asked, opened_for, opened_by, id_in, disconnected_peer, disconnected_by, Challenge}
use Rattle.connection.specs.Pieces.{check_of}
use Rattle.connection.proofs.Nonces.{AllOctets, all-octets, Sixteen, Good}

-- ---- ids

pub opened_by_lem : (p : Peer) (t : List ℕ) (srm : Bool) (v target : Option (List ℕ))
    → opened_for p t srm v target ≡ opened_by p t srm (id_in v) (target_asked target)
opened_by_lem p t srm (some v) none = refl
opened_by_lem p t srm (some v) (some target) = refl
opened_by_lem p t srm none (some target) = refl
opened_by_lem p t srm none none = refl

pub disconnected_by_lem : (p : Peer) (t : List ℕ) (v : Option (List ℕ)) → disconnected_peer p t v ≡ disconnected_by p t (id_in v)
unfolding disconnected_peer
disconnected_by_lem p t none = refl
disconnected_by_lem p t (some v) = refl

-- ---- a response that was read has a digest, and a nonce if any, of sixteen bytes

abbrev Whole : Response → Type 0
Whole r = Sixteen r.digest × Good r.nonce

good16 : (v : List ℕ) → Octets v → Good (named16 v)
good16 v o = go (eqb (length v) 16) refl
  where
    go : (b : Bool) → eqb (length v) 16 ≡ b → Good (pick b (some v) none)
    go true q = (eqb-true (length v) 16 q, o)
    go false q = tt

from-response : (ts : List Tag) (d u n : Option (List ℕ)) (r : Response) → AllOctets ts → Good d → Good n → response_from ts d u n ≡ some r → Whole r
unfolding response_from
from-response [] none u n r a g h e = absurd (let z : ◌≡◌ {A = ℕ} 0 1 = cc in omega arith)
from-response [] (some d) u n r a g h e = let k : record { digest = d; user = u; nonce = n } ≡ r = cc in rw (← k) (g, h)
from-response (t ∷ ts) d u n r a g h e =
    go (eqb t.tag 0) (eqb (length t.value) 16) (eqb t.tag 1) (eqb t.tag 2) refl (λ d u n. from-response ts d u n r a.1) e
  where
    go : (x y z w : Bool) → eqb (length t.value) 16 ≡ y
        → ((d u n : Option (List ℕ)) → Good d → Good n → response_from ts d u n ≡ some r → Whole r)
        → pick x (pick y (response_from ts (some t.value) u n) none)
        (pick z (response_from ts d (some t.value) n) (pick w (response_from ts d u (named16 t.value)) (response_from ts d u n)))
        ≡ some r → Whole r
    go true true z w q on f = on (some t.value) u n (eqb-true (length t.value) 16 q, a.0) h f
    go true false z w q on f = absurd (let z : ◌≡◌ {A = ℕ} 0 1 = cc in omega arith)
    go false y true w q on f = on d (some t.value) n g h f
    go false y false true q on f = on d u (named16 t.value) g (good16 t.value a.0) f
    go false y false false q on f = on d u n g h f

whole : (v : List ℕ) (r : Response) → Octets v → response_of v ≡ some r → Whole r
unfolding response_of
whole v r o e = go (tags v) refl e
  where
    go : (s : Tags) → tags v ≡ s → response_in s ≡ some r → Whole r
    go unreadable q d = absurd (let z : ◌≡◌ {A = ℕ} 0 1 = cc in omega arith)
    go (tag_list ts) q d = from-response ts none none none r (all-octets ts (rw (read_write v ts q) o)) tt tt d

same_bytes : (l : List ℕ) → Sixteen l → octets16 (numbers16 l) ≡ l
same_bytes l w = octets-numbers l w.0 (are_bytes l w.1)

same-named : (n : Option (List ℕ)) → Good n → bytes_named (named_of n) ≡ n
same-named none g = refl
same-named (some l) g = ap some (same_bytes l g)

-- ---- the check of a password, by the response's bytes

abbrev pub check_by : Challenge → Option Response → Bool → Option (List ℕ) → Bool
check_by None r d p = false
check_by (Some n) none d p = false
check_by (Some n) (some r) d none = false
check_by (Some n) (some r) d (some p) = verified d (octets16 n) r p

pub check_by_lem : (ch : Challenge) (v : List ℕ) (d : Bool) (p : Option (List ℕ)) → Octets v → check_of ch (read_response v) d p ≡ check_by ch (response_of v) d p
unfolding read_response verified matches
check_by_lem None v d p o = refl
check_by_lem (Some n) v d p o = go p (response_of v) refl
  where
    go : (p : Option (List ℕ)) (r : Option Response) → response_of v ≡ r
        → check_of (Some n) (response_read r (last_value v 1)) d p ≡ check_by (Some n) r d p
    go none none e = refl
    go (some p) none e = refl
    go none (some r) e = refl
    go (some p) (some r) e = let w = whole v r o e in rw (filled-user v r e, same_bytes r.digest w.0, same-named r.nonce w.1)
