-- The pieces of a reply to a Connect are the bytes of its headers: the host's first header ends where Who goes. Assumes nothing.
use Rattle.std.proofs.Common.{◌≡◌, ℕ, ◌-◌, Bool, true, false, List, [], ◌∷◌, ◌++◌, length, take, drop, sym, refl, ap, ◌∙◌, ap₂, append_assoc, append-nil, arith, length-drop, take-append-drop, take_all}
use mathlib.Core.Option.{Option, none, some}
use lib.Seq.{take-length}
use Rattle.std.specs.Prelude.{Some, None}
use Rattle.base.specs.Pick.{pick}
use Rattle.base.specs.Bytes.{bytes32}
use Rattle.base.specs.Place.{Place, span}
use Rattle.packet.specs.HeaderWriter.{header}
use Rattle.packet.specs.Header.{Header, header_at_of, part, push, read_headers, walk, first, first_place, bytes_of, all_bytes}
use Rattle.packet.specs.HeaderList.{is_read, readable_from}
use Rattle.packet.specs.Tags.{bytes_at, write_tags}
use Rattle.packet.specs.Auth.{Challenge, response_tags}
use Rattle.packet.specs.AuthRead.{Named, challenge_read}
use Rattle.packet.specs.declared.header.HeaderAt.{HeaderAt}
use Rattle.packet.specs.declared.header.HeaderAt.TheVariants.{At, Unreadable, End}
use Rattle.packet.proofs.HeaderBytes.{Octets, header-bytes, header_at_bytes}
use Rattle.packet.proofs.HeaderLaws.{by_cursor_lem, first_found}
use Rattle.journal.specs.Journal.{list_of}
use Rattle.connection.specs.Peer.{ConnectionId}
use Rattle.connection.specs.ConnectReply.{second, with_id, who_for, answer_with, grant, answered_challenge, connect_headers}
use Rattle.connection.specs.Pieces.{headers_from, first_in, answered_in, realm_of, nonce_of, nonce_for, who_place, end_of, readable}
use Rattle.connection.specs.Pieces.{who_bytes, answer_bytes, grant_bytes, named_bytes, added_bytes, Inside, credentials_of, id_given}
use Rattle.connection.proofs.Challenges.{first_in_bytes}
use Rattle.connection.proofs.Nonces.{answered-nonce}

all_append : (a b : List Header) → all_bytes (a ++ b) ≡ all_bytes a ++ all_bytes b
unfolding all_bytes
all_append [] b = refl
all_append (h ∷ a) b = ap (λ (l : List ℕ). bytes_of h ++ l) (all_append a b) ∙ sym (append_assoc (bytes_of h) (all_bytes a) (all_bytes b))

-- ---- the host's headers

pub readable-read : (s : List ℕ) → read_headers (readable s) 0 ≡ some (headers_from s 0)
unfolding read_headers walk header_at_of
readable-read s = go (read_headers s 0) refl
  where
    go : (r : Option (List Header)) → read_headers s 0 ≡ r → read_headers (pick (is_read r) s []) 0 ≡ some (list_of r)
    go none e = refl
    go (some hs) e = e

pub readable-take : (s : List ℕ) (n : ℕ) → n ≡ length (readable s) → take n s ≡ readable s
readable-take s n e = rw e (go (readable_from s 0))
  where
    go : (b : Bool) → take (length (pick b s [])) s ≡ pick b s []
    go true = take-length s
    go false = refl

-- the bytes up to a place and from it on
rest_part : (s : List ℕ) (a : ℕ) → part s a (length s) ≡ drop a s
rest_part s a = take_all (length s - a) (drop a s) (omega (arith, length-drop a s))

first_part : (s : List ℕ) (a : ℕ) → part s 0 a ≡ take a s
first_part s a = let z : a - 0 ≡ a = omega arith in rw z

-- Who in the second place
abbrev placing : Option (List ℕ) → List Header → List Header
placing none hs = hs
placing (some t) hs = second (header 0x4A t) hs

abbrev who_of : Option (List ℕ) → Option (List ℕ) → Option (List ℕ)
who_of t none = t
who_of t (some w) = none

who-placing : (t w : Option (List ℕ)) (hs : List Header) → who_for t w hs ≡ placing (who_of t w) hs
who-placing none none hs = refl
who-placing none (some w) hs = refl
who-placing (some t) none hs = refl
who-placing (some t) (some w) hs = refl

who-bytes : (p q : List ℕ) (t w : Place) → bytes_at p (who_place t w) ≡ who_of (bytes_at p t) (bytes_at q w)
who-bytes p q t None = refl
who-bytes p q t (Some w) = refl

-- the first header ends at the cut
second-bytes : (s : List ℕ) (t : List ℕ) (hs : List Header) → Octets s → read_headers s 0 ≡ some hs
    → all_bytes (second (header 0x4A t) hs) ≡ take (end_of (header_at_of s 0)) s ++ who_bytes (some t) ++ drop (end_of (header_at_of s 0)) s
unfolding all_bytes
second-bytes s t hs o e = go (header_at_of s 0) refl hs e
  where
    go : (a : HeaderAt) → header_at_of s 0 ≡ a → (hs : List Header) → read_headers s 0 ≡ some hs
        → all_bytes (second (header 0x4A t) hs) ≡ take (end_of a) s ++ who_bytes (some t) ++ drop (end_of a) s
    go End q [] d = ap (λ (l : List ℕ). who_bytes (some t) ++ l) (header-bytes s 0 [] o d)
    go End q (h ∷ hs) d = let w = by_cursor_lem s 0 End q in absurd (let z : ◌≡◌ {A = ℕ} 0 1 = cc in omega arith)
    go Unreadable q hs d = let w = by_cursor_lem s 0 Unreadable q in absurd (let z : ◌≡◌ {A = ℕ} 0 1 = cc in omega arith)
    go (At i c from to) q hs d = pushed (read_headers s to) refl hs (sym (by_cursor_lem s 0 (At i c from to) q).list ∙ d)
      where
        pushed : (r : Option (List Header)) → read_headers s to ≡ r → (hs : List Header) → push (record { id = i; value = part s from to }) r ≡ some hs
            → all_bytes (second (header 0x4A t) hs) ≡ take to s ++ who_bytes (some t) ++ drop to s
        pushed none k hs d = absurd (let z : ◌≡◌ {A = ℕ} 0 1 = cc in omega arith)
        pushed (some rest) k [] d = absurd (let z : ◌≡◌ {A = ℕ} 0 1 = cc in omega arith)
        pushed (some rest) k (h ∷ hs) d =
            let f : record { id = i; value = part s from to } ≡ h = cc in
            let g : rest ≡ hs = cc in
            rw (← f, ← g, header_at_bytes s 0 i c from to o q, first_part s to, header-bytes s to rest o k, append_assoc)

named-bytes : (f : ConnectionId) (who : Option (List ℕ)) (s : List ℕ) (hs : List Header) → Octets s → read_headers s 0 ≡ some hs
    → all_bytes (placing who (with_id (id_given f) hs)) ≡ named_bytes f who s
unfolding named_bytes all_bytes
named-bytes (Some i) none s hs o e =
    let b : bytes_of (header 0xCB (bytes32 i)) ++ [] ++ [] ≡ bytes_of (header 0xCB (bytes32 i)) = simp append-nil in
    rw (header-bytes s 0 hs o e, rest_part s 0, first_part s 0, b)
named-bytes (Some i) (some t) s hs o e =
    rw (header-bytes s 0 hs o e, rest_part s 0, first_part s 0, append-nil, append_assoc)
named-bytes None none s hs o e =
    rw (header-bytes s 0 hs o e, rest_part s (end_of (header_at_of s 0)), first_part s (end_of (header_at_of s 0)), append-nil, take-append-drop)
named-bytes None (some t) s hs o e =
    rw (rest_part s (end_of (header_at_of s 0)), first_part s (end_of (header_at_of s 0))) (second-bytes s t hs o e)

-- ---- the answer to the challenge, and SRM

answer-part : (s : List ℕ) (from : ℕ) (has : Bool) (user : Option (List ℕ)) (password : List ℕ) → Octets s
    → all_bytes (answer_with (answered_challenge (headers_from s from)) (credentials_of has user password)) ≡ answer_bytes (nonce_for has (headers_from s from)) user password
unfolding answered_in all_bytes
answer-part s from has user password o = go has (answered_challenge (headers_from s from)) refl
  where
    go : (b : Bool) (c : Option Challenge) → answered_challenge (headers_from s from) ≡ c
        → all_bytes (answer_with c (credentials_of b user password))
        ≡ answer_bytes (pick b (nonce_of (challenge_read c (realm_of (first 0x4D (headers_from s from))))) None) user password
    go false none e = refl
    go false (some c) e = refl
    go true none e = refl
    go true (some c) e =
        append-nil (bytes_of (header 0x4E (write_tags (response_tags c.nonce user password))))
        ∙ ap (λ (n : List ℕ). bytes_of (header 0x4E (write_tags (response_tags n user password)))) (sym (answered-nonce s from c o e))

grant-part : (srm : Bool) → all_bytes (grant srm) ≡ grant_bytes srm
unfolding all_bytes
grant-part true = append-nil (bytes_of (header 0x97 (0x01 ∷ [])))
grant-part false = refl

-- ---- all of it

octets-readable : (s : List ℕ) → Octets s → Octets (readable s)
octets-readable s o = go (readable_from s 0)
  where
    go : (b : Bool) → Octets (pick b s [])
    go true = o
    go false = λ k. omega arith

pub connect_bytes_lem : (f : ConnectionId) (s headers : List ℕ) (from : ℕ) (has : Bool) (user : Option (List ℕ)) (password : List ℕ) (srm : Bool) → Octets s → Octets headers
    → named_bytes f (bytes_at s (who_place (first_in 0x46 s from) (first_in 0x4A (readable headers) 0))) (readable headers)
    ++ added_bytes (nonce_for has (headers_from s from)) user password srm
    ≡ all_bytes (connect_headers (id_given f) (headers_from s from) (headers_from headers 0) (credentials_of has user password) srm)
unfolding connect_headers added_bytes
connect_bytes_lem f s headers from has user password srm o p =
    let hs = readable headers in
    let answer = headers_from headers 0 in
    let request = headers_from s from in
    let r : read_headers hs 0 ≡ some answer = readable-read headers in
    let l : headers_from hs 0 ≡ answer = ap list_of r in
    let who = who_place (first_in 0x46 s from) (first_in 0x4A hs 0) in
    let w : bytes_at s who ≡ who_of (first 0x46 request) (first 0x4A answer) =
    who-bytes s hs (first_in 0x46 s from) (first_in 0x4A hs 0)
    ∙ ap₂ who_of (first_in_bytes 0x46 s from) (first_in_bytes 0x4A hs 0 ∙ ap (first 0x4A) l) in
    let a = who_for (first 0x46 request) (first 0x4A answer) (with_id (id_given f) answer) in
    let b = answer_with (answered_challenge request) (credentials_of has user password) in
    let n : all_bytes a ≡ named_bytes f (bytes_at s who) hs =
    ap all_bytes (who-placing (first 0x46 request) (first 0x4A answer) (with_id (id_given f) answer))
    ∙ named-bytes f (who_of (first 0x46 request) (first 0x4A answer)) hs answer (octets-readable headers p) r
    ∙ ap (λ (v : Option (List ℕ)). named_bytes f v hs) (sym w) in
    sym
    (all_append (a ++ b) (grant srm)
    ∙ ap₂ (λ (u v : List ℕ). u ++ v) (all_append a b ∙ ap₂ (λ (u v : List ℕ). u ++ v) n (answer-part s from has user password o)) (grant-part srm)
    ∙ append_assoc (named_bytes f (bytes_at s who) hs) (answer_bytes (nonce_for has request) user password) (grant_bytes srm))

-- as the code has them
pub connect_as : (f : ConnectionId) (s headers hs : List ℕ) (from : ℕ) (has : Bool) (user : Option (List ℕ)) (password : List ℕ) (srm : Bool) (who : Place) (m : Named)
    → hs ≡ readable headers → who ≡ who_place (first_in 0x46 s from) (first_in 0x4A hs 0) → m ≡ nonce_for has (headers_from s from) → Octets s → Octets headers
    → named_bytes f (bytes_at s who) hs ++ added_bytes m user password srm
    ≡ all_bytes (connect_headers (id_given f) (headers_from s from) (headers_from headers 0) (credentials_of has user password) srm)
connect_as f s headers hs from has user password srm who m a b c o p = rw (b, c, a) (connect_bytes_lem f s headers from has user password srm o p)

-- the Target stands in the packet
first-inside : (id : ℕ) (s : List ℕ) (from : ℕ) → Inside s (first_in id s from)
unfolding first_in
first-inside id s from = go (readable_from s from) (first_place id s from) refl
  where
    go : (b : Bool) (f : Place) → first_place id s from ≡ f → Inside s (pick b f None)
    go false f e = tt
    go true None e = tt
    go true (Some p) e = let w = first_found id s from p.start p.end e in (w.stands.past, w.stands.fits)

pub who-inside : (s : List ℕ) (from : ℕ) (v w : Place) → w ≡ who_place (first_in 0x46 s from) v → Inside s w
who-inside s from v w e = rw e (go v)
  where
    go : (v : Place) → Inside s (who_place (first_in 0x46 s from) v)
    go None = first-inside 0x46 s from
    go (Some p) = tt
