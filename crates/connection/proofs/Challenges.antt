-- The peer's challenges, header by header, and the one that is answered. Assumes nothing.
use Rattle.std.proofs.Common.{◌≡◌, ℕ, Bool, true, false, eqb, List, [], ◌∷◌, sym, refl, ap, ◌∙◌, arith}
use mathlib.Core.Option.{Option, none, some}
use Rattle.base.specs.Pick.{pick}
use Rattle.std.specs.Prelude.{Option as Maybe, None}
use Rattle.base.specs.Place.{Place}
use Rattle.packet.specs.Header.{Header, push, read_headers, first, first_place}
use Rattle.packet.specs.HeaderList.{is_read}
use Rattle.packet.specs.Tags.{bytes_at}
use Rattle.packet.specs.Auth.{Challenge, challenge_of, realm_place}
use Rattle.packet.specs.AuthRead.{challenge_read, read_challenge}
use Rattle.packet.specs.declared.auth.DigestChallenge.{DigestChallenge}
use Rattle.packet.proofs.HeaderLaws.{first-agrees}
use Rattle.journal.specs.Journal.{list_of}
use Rattle.connection.specs.ConnectReply.{push_challenge, challenges, first_of, answered_challenge}
use Rattle.connection.specs.Pieces.{headers_from, first_in, is_known, known_in, is_challenge, known_header, realm_of, answered_in}

-- ---- all can be read

known_on : (b : Bool) (o : Option Challenge) (cs : Option (List Challenge)) (r : Place)
    → is_known (pick b (push_challenge o cs) cs) ≡ pick (pick b (is_challenge (challenge_read o r)) true) (is_known cs) false
known_on true none cs r = refl
known_on true (some c) none r = refl
known_on true (some c) (some cs) r = refl
known_on false o cs r = refl

pub known_step : (id : ℕ) (v : List ℕ) (r : Option (List Header))
    → known_in (push (record { id = id; value = v }) r) ≡ pick (known_header id v) (known_in r) false
unfolding challenges read_challenge
known_step id v none = none_on (known_header id v)
  where
    none_on : (b : Bool) → false ≡ pick b false false
    none_on true = refl
    none_on false = refl
known_step id v (some hs) = known_on (eqb id 0x4D) (challenge_of v) (challenges hs) (realm_place v)

-- ---- the one answered

-- the first challenge, read from its tag list
abbrev pub read_first : Option (List ℕ) → Maybe DigestChallenge
read_first none = None
read_first (some v) = read_challenge v

answered-first : (h : Header) (hs : List Header) (b : Bool) (o : Option Challenge) (cs : Option (List Challenge)) → challenge_of h.value ≡ o
    → is_known (pick b (push_challenge o cs) cs) ≡ true
    → (is_known cs ≡ true → challenge_read (first_of cs) (realm_of (first 0x4D hs)) ≡ read_first (first 0x4D hs))
    → challenge_read (first_of (pick b (push_challenge o cs) cs)) (realm_of (pick b (some h.value) (first 0x4D hs)))
    ≡ read_first (pick b (some h.value) (first 0x4D hs))
unfolding read_challenge
answered-first h hs false o cs q k ih = ih k
answered-first h hs true none cs q k ih = let z : ◌≡◌ {A = ℕ} 0 1 = cc in absurd (omega arith)
answered-first h hs true (some c) none q k ih = let z : ◌≡◌ {A = ℕ} 0 1 = cc in absurd (omega arith)
answered-first h hs true (some c) (some cs) q k ih = rw q

pub answered-known : (hs : List Header) → is_known (challenges hs) ≡ true → answered_in hs ≡ read_first (first 0x4D hs)
unfolding answered_in answered_challenge challenges first
answered-known [] k = refl
answered-known (h ∷ hs) k = answered-first h hs (eqb h.id 0x4D) (challenge_of h.value) (challenges hs) refl k (answered-known hs)

pub not-answered : (r : Option (List Header)) → known_in r ≡ false → answered_in (list_of r) ≡ None
unfolding answered_in answered_challenge challenges first
not-answered none k = refl
not-answered (some hs) k = go (challenges hs) k
  where
    go : (cs : Option (List Challenge)) → is_known cs ≡ false → challenge_read (first_of cs) (realm_of (first 0x4D hs)) ≡ None
    go none e = refl
    go (some cs) e = let z : ◌≡◌ {A = ℕ} 0 1 = cc in absurd (omega arith)

-- without a challenge none is answered
pub none-answered : (hs : List Header) → first 0x4D hs ≡ none → None ≡ answered_in hs
none-answered hs e = go (is_known (challenges hs)) refl
  where
    go : (b : Bool) → is_known (challenges hs) ≡ b → None ≡ answered_in hs
    go true k = sym (answered-known hs k ∙ ap read_first e)
    go false k = sym (not-answered (some hs) k)

pub answered_at : (s : List ℕ) (from : ℕ) → known_in (read_headers s from) ≡ true
    → answered_in (headers_from s from) ≡ read_first (bytes_at s (first_place 0x4D s from))
answered_at s from k = go (read_headers s from) refl k
  where
    go : (r : Option (List Header)) → read_headers s from ≡ r → known_in r ≡ true → answered_in (list_of r) ≡ read_first (bytes_at s (first_place 0x4D s from))
    go none e q = let z : ◌≡◌ {A = ℕ} 0 1 = cc in absurd (omega arith)
    go (some hs) e q = answered-known hs q ∙ ap read_first (sym (first-agrees 0x4D s from hs e))

-- ---- the first of an id

pub first_in_bytes : (id : ℕ) (s : List ℕ) (from : ℕ) → bytes_at s (first_in id s from) ≡ first id (headers_from s from)
unfolding first_in first
first_in_bytes id s from = go (read_headers s from) refl
  where
    go : (r : Option (List Header)) → read_headers s from ≡ r → bytes_at s (pick (is_read r) (first_place id s from) None) ≡ first id (list_of r)
    go none e = refl
    go (some hs) e = first-agrees id s from hs e
