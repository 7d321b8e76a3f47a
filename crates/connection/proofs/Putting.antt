-- Pieces of a reply: one behind the other in the store, and their lengths. Assumes nothing.
use Rattle.std.proofs.Common.{◌≡◌, ℕ, ◌+◌, ◌-◌, ◌≤◌, Bool, true, false, ltb, List, [], ◌∷◌, ◌++◌, length, sym, refl, ap, ◌∙◌, append-nil, arith, length-append, ltb-false, le-ltb}
use mathlib.Core.Option.{Option}
use Rattle.std.specs.Prelude.{Some, None}
use Rattle.base.specs.Pick.{pick}
use Rattle.base.specs.Bytes.{bytes32}
use Rattle.packet.specs.AuthRead.{Named}
use Rattle.base.specs.Place.{Place, span}
use Rattle.digest.specs.Md5.{octets16}
use Rattle.digest.specs.declared.md5.Octets16.{Octets16}
use Rattle.digest.proofs.Octets.{length-octets16}
use Rattle.packet.specs.Header.{Header, encoding_of, header_at_of, part, bytes_of}
use Rattle.packet.specs.HeaderWriter.{too_long_of, lead_bytes, header, put_header}
use Rattle.packet.specs.Tags.{bytes_at, write_tags}
use Rattle.packet.specs.Auth.{response_tags, challenge_tags}
use Rattle.packet.specs.AuthWrite.{given, overlong, write_digest_response, write_challenge}
use Rattle.packet.specs.Placed.{Putting, putting, laid, placed}
use Rattle.packet.specs.declared.tlv.Wrote.{Wrote}
use Rattle.packet.specs.declared.store.LengthField.{LengthField}
use Rattle.packet.specs.declared.store.LengthField.TheVariants.{OneByte, TwoBytes}
use Rattle.packet.specs.declared.header.HeaderEncoding.TheVariants.{Bytes}
use Rattle.packet.proofs.Laid.{length-laid, laid-nothing, laid-append}
use Rattle.packet.proofs.AuthLaws.{length-request}
use Rattle.packet.proofs.AuthWrites.{answer-length, user-length, challenge-length, realm-length}
use Rattle.connection.specs.ConnectReply.{challenge_header}
use Rattle.packet.specs.declared.header.HeaderAt.{HeaderAt}
use Rattle.packet.specs.declared.header.HeaderAt.TheVariants.{At, Unreadable, End}
use Rattle.packet.proofs.HeaderBytes.{header_at_within, part_length}
use Rattle.connection.specs.Peer.{ConnectionId}
use Rattle.connection.specs.Pieces.{id_bytes, who_bytes, answer_bytes, grant_bytes, end_of, cut_at, named_bytes, added_bytes, Room, Puts}
use Rattle.connection.specs.Pieces.{id_size, who_size, answer_size, size_of, Inside, Ordered}

-- ---- one behind the other

pub room-left : (y a b : List ℕ) (at : ℕ) → Room y at (a ++ b) → Room y at a
room-left y a b at r = record { small = omega (arith, r.small, length-append a b); store = r.store }

pub room-right : (y z a b : List ℕ) (at n : ℕ) → Room y at (a ++ b) → Puts y at a n z → Room z n b
room-right y z a b at n r p =
    record {
      small = omega (arith, r.small, length-append a b, p.next_is);
      store = omega (arith, r.store, ap length p.store ∙ length-laid y a at (omega (arith, r.small, r.store, length-append a b)));
    }

pub puts-more : (y z w a b : List ℕ) (at n m : ℕ) → Room y at (a ++ b) → Puts y at a n z → Puts z n b m w → Puts y at (a ++ b) m w
puts-more y z w a b at n m r p q =
    record {
      next_is = omega (arith, p.next_is, q.next_is, length-append a b);
      store =
          q.store ∙ ap (λ (l : List ℕ). laid l n b) p.store
          ∙ laid-append y a b at n (sym p.next_is) (omega (arith, r.small, r.store, length-append a b, p.next_is));
    }

pub puts-nothing : (y : List ℕ) (at : ℕ) → Puts y at [] at y
puts-nothing y at = record { next_is = omega arith; store = sym (laid-nothing y at) }

-- ---- bytes that a writer places

-- bytes that fit are laid there
pub placed-laid : (d z bytes : List ℕ) (at : ℕ) (r : Wrote) (f : LengthField) (forbidden : Bool) → forbidden ≡ false → at + length bytes ≤ length d
    → putting r z ≡ placed d at f forbidden bytes → z ≡ laid d at bytes
unfolding placed
placed-laid d z bytes at r f forbidden o h e = ap (λ (p : Putting). p.store) (rw (o, le-ltb (length d) (at + length bytes) h) at e)

-- ---- a header by the packet's writer

-- a header that fits is laid there
pub header-laid : (d z : List ℕ) (at : ℕ) (h : Header) (r : Wrote) → too_long_of (encoding_of h.id) (length h.value) ≡ false
    → at + length (bytes_of h) ≤ length d → putting r z ≡ put_header d at h → z ≡ laid d at (bytes_of h)
unfolding put_header
header-laid d z at h r s f e = placed-laid d z (bytes_of h) at r TwoBytes (too_long_of (encoding_of h.id) (length h.value)) s f e

-- a header of bytes: its id, its length and its value
pub bytes-length : (id : ℕ) (v : List ℕ) → ltb id 64 ≡ false → ltb id 128 ≡ true → length (bytes_of (header id v)) ≡ 3 + length v
unfolding bytes_of encoding_of
bytes-length id v a b = rw (a, b) (omega arith)

pub bytes-lead : (id : ℕ) (v : List ℕ) → ltb id 64 ≡ false → ltb id 128 ≡ true → bytes_of (header id v) ≡ lead_bytes Bytes id (length v) ++ v
unfolding bytes_of encoding_of
bytes-lead id v a b = rw (a, b)

pub bytes-short : (id n : ℕ) → ltb id 64 ≡ false → ltb id 128 ≡ true → n ≤ 65532 → too_long_of (encoding_of id) n ≡ false
unfolding encoding_of
bytes-short id n a b h = rw (a, b) (le-ltb 65535 (3 + n) (omega arith))

-- ---- their lengths

id_length : (f : ConnectionId) → length (id_bytes f) ≡ id_size f
unfolding bytes_of encoding_of
id_length (Some i) = refl
id_length None = refl

grant-length : (srm : Bool) → length (grant_bytes srm) ≡ pick srm 2 0
unfolding bytes_of encoding_of
grant-length true = refl
grant-length false = refl

pub who-length : (s : List ℕ) (who : Place) → Inside s who → length (who_bytes (bytes_at s who)) ≡ who_size who
who-length s None w = refl
who-length s (Some p) w = bytes-length 0x4A (part s p.start p.end) refl refl ∙ ap (λ (n : ℕ). 3 + n) (part_length s p.start p.end w.1)

pub response-length : (n : Octets16) (has : Bool) (user password : List ℕ)
    → length (write_tags (response_tags (octets16 n) (given has user) password)) ≡ 36 + pick has (2 + length user) 0
unfolding response_tags
response-length n has user password =
    answer-length _ (octets16 n) (given has user) (length-request (octets16 n) password) (length-octets16 n) ∙ ap (λ (k : ℕ). 36 + k) (user-length has user)

pub answer-bytes-length : (m : Named) (has : Bool) (user password : List ℕ) → length (answer_bytes m (given has user) password) ≡ answer_size m has (length user)
answer-bytes-length None has user password = refl
answer-bytes-length (Some n) has user password =
    let v = write_tags (response_tags (octets16 n) (given has user) password) in
    let e = response-length n has user password in
    bytes-length 0x4E v refl refl ∙ omega (arith, e)

-- ---- tags that fit

-- a header of tags: what stands before them, and then they
pub tags-laid : (y z w v : List ℕ) (at id size : ℕ) (r : Wrote) (f : LengthField) (forbidden : Bool) → ltb id 64 ≡ false → ltb id 128 ≡ true
    → length v ≡ size - 3 → at + 3 + length v ≤ length y → z ≡ laid y at (lead_bytes Bytes id (size - 3)) → forbidden ≡ false
    → putting r w ≡ placed z (at + 3) f forbidden v → w ≡ laid y at (bytes_of (header id v))
tags-laid y z w v at id size r f forbidden a b l h s o p =
    let lz : length z ≡ length y = ap length s ∙ length-laid y (lead_bytes Bytes id (size - 3)) at (omega arith) in
    placed-laid z w v (at + 3) r f forbidden o (omega arith) p
    ∙ ap (λ (d : List ℕ). laid d (at + 3) v) s
    ∙ laid-append y (lead_bytes Bytes id (size - 3)) v at (at + 3) refl h
    ∙ rw (← l, bytes-lead id v a b)

-- ---- each piece

pub id_puts : (y z : List ℕ) (at i : ℕ) (f : ConnectionId) (r : Wrote) → f ≡ Some i → Room y at (id_bytes f) → putting r z ≡ put_header y at (header 0xCB (bytes32 i))
    → Puts y at (id_bytes f) (at + 5) z
unfolding bytes_of encoding_of
id_puts y z at i f r e m p =
    let room : Room y at (id_bytes (Some i)) = rw e at m in
    rw e (record { next_is = refl; store = header-laid y z at (header 0xCB (bytes32 i)) r refl (omega (arith, room.small, room.store)) p })

pub who-puts : (y z s : List ℕ) (at a b : ℕ) (w : Place) (r : Wrote) → w ≡ span a b → Room y at (who_bytes (bytes_at s w)) → Inside s w
    → putting r z ≡ put_header y at (header 0x4A (part s a b)) → Puts y at (who_bytes (bytes_at s w)) (at + 3 + (b - a)) z
who-puts y z s at a b w r e m i p =
    let room : Room y at (who_bytes (bytes_at s (span a b))) = rw e at m in
    let inside : Inside s (span a b) = rw e at i in
    let l : length (part s a b) ≡ b - a = part_length s a b inside.1 in
    let n : length (who_bytes (bytes_at s (span a b))) ≡ 3 + (b - a) = who-length s (span a b) inside in
    rw e
    (record {
      next_is = omega (arith, n);
      store =
          header-laid y z at (header 0x4A (part s a b)) r (bytes-short 0x4A (length (part s a b)) refl refl (omega (arith, l, n, room.small)))
          (omega (arith, room.small, room.store))
          p;
    })

pub user-small : (has : Bool) (user : List ℕ) → overlong (given has user) ≡ false → pick has (length user) 0 ≤ 255
user-small true user e = ltb-false 255 (length user) e
user-small false user e = omega arith

module _ (y user password : List ℕ) (at : ℕ) (n : Octets16) (has : Bool) (m : Named) (e : m ≡ Some n)
    (room : Room y at (answer_bytes m (given has user) password)) (size : ℕ) (q : size ≡ 39 + pick has (2 + length user) 0) where
  bytes : length (answer_bytes m (given has user) password) ≡ size
  bytes = answer-bytes-length m has user password ∙ ap (λ (k : Named). answer_size k has (length user)) e ∙ sym q

  pub answer-room : (at + size ≤ 65535) × (39 ≤ size) × (65535 ≤ length y)
  answer-room = (omega (arith, room.small, bytes), omega (arith, q), room.store)

  pub answer-puts : (z w : List ℕ) (r : Wrote) → overlong (given has user) ≡ false → z ≡ laid y at (lead_bytes Bytes 0x4E (size - 3))
      → putting r w ≡ write_digest_response z (at + 3) n (given has user) password → Puts y at (answer_bytes m (given has user) password) (at + size) w
  unfolding write_digest_response
  answer-puts z w r o s p =
      let v = write_tags (response_tags (octets16 n) (given has user) password) in
      let l : length v ≡ size - 3 = omega (arith, response-length n has user password, q) in
      let h = answer-room in
      record {
        next_is = omega (arith, bytes);
        store =
            tags-laid y z w v at 0x4E size r OneByte (overlong (given has user)) refl refl l (omega (arith, h, l)) s o p
            ∙ ap (λ (k : Named). laid y at (answer_bytes k (given has user) password)) (sym e);
      }

pub grant-puts : (y z a w : List ℕ) (at next : ℕ) (srm : Bool) (r : Wrote) → srm ≡ true → Room y at (a ++ grant_bytes srm) → Puts y at a next z
    → putting r w ≡ put_header z next (header 0x97 (0x01 ∷ [])) → w ≡ laid y at (a ++ grant_bytes srm)
unfolding bytes_of encoding_of
grant-puts y z a w at next srm r t room p q =
    let m : Room y at (a ++ grant_bytes true) = rw t at room in
    let m₂ = room-right y z a (grant_bytes true) at next m p in
    let s : w ≡ laid z next (grant_bytes true) =
    header-laid z w next (header 0x97 (0x01 ∷ [])) r refl (omega (arith, m₂.small, m₂.store)) q in
    rw t (puts-more y z w a (grant_bytes true) at next (next + 2) m p (record { next_is = refl; store = s })).store

pub no_grant : (y z a : List ℕ) (at next : ℕ) (srm : Bool) → srm ≡ false → Puts y at a next z → z ≡ laid y at (a ++ grant_bytes srm)
no_grant y z a at next srm t p = rw (t, append-nil a) p.store

-- ---- the headers with the id and Who

pub cut-within : (f : ConnectionId) (hs : List ℕ) → cut_at f hs ≤ length hs
cut-within (Some i) hs = omega arith
cut-within None hs = go (header_at_of hs 0) refl
  where
    go : (a : HeaderAt) → header_at_of hs 0 ≡ a → end_of a ≤ length hs
    go End e = omega arith
    go Unreadable e = omega arith
    go (At id c from to) e = (header_at_within hs 0 id c from to e).1

module _ (y hs : List ℕ) (at cut : ℕ) (f : ConnectionId) (who : Option (List ℕ)) (e : cut ≡ cut_at f hs) (room : Room y at (named_bytes f who hs)) where
  all : Room y at (id_bytes f ++ part hs 0 cut ++ who_bytes who ++ part hs cut (length hs))
  unfolding named_bytes
  all = rw e room

  pub room_id : Room y at (id_bytes f)
  room_id =
      room-left y (id_bytes f) (part hs 0 cut) at
      (room-left y (id_bytes f ++ part hs 0 cut) (who_bytes who) at (room-left y (id_bytes f ++ part hs 0 cut ++ who_bytes who) (part hs cut (length hs)) at all))

  module _ (y₁ : List ℕ) (n₁ : ℕ) (p₁ : Puts y at (id_bytes f) n₁ y₁) where
    r₁ : Room y at (id_bytes f ++ part hs 0 cut)
    r₁ =
        room-left y (id_bytes f ++ part hs 0 cut) (who_bytes who) at (room-left y (id_bytes f ++ part hs 0 cut ++ who_bytes who) (part hs cut (length hs)) at all)

    pub room-first : Room y₁ n₁ (part hs 0 cut)
    room-first = room-right y y₁ (id_bytes f) (part hs 0 cut) at n₁ r₁ p₁

    module _ (y₂ : List ℕ) (n₂ : ℕ) (p₂ : Puts y₁ n₁ (part hs 0 cut) n₂ y₂) where
      q₂ : Puts y at (id_bytes f ++ part hs 0 cut) n₂ y₂
      q₂ = puts-more y y₁ y₂ (id_bytes f) (part hs 0 cut) at n₁ n₂ r₁ p₁ p₂

      r₂ : Room y at (id_bytes f ++ part hs 0 cut ++ who_bytes who)
      r₂ = room-left y (id_bytes f ++ part hs 0 cut ++ who_bytes who) (part hs cut (length hs)) at all

      pub room-who : Room y₂ n₂ (who_bytes who)
      room-who = room-right y y₂ (id_bytes f ++ part hs 0 cut) (who_bytes who) at n₂ r₂ q₂

      module _ (y₃ : List ℕ) (n₃ : ℕ) (p₃ : Puts y₂ n₂ (who_bytes who) n₃ y₃) where
        q₃ : Puts y at (id_bytes f ++ part hs 0 cut ++ who_bytes who) n₃ y₃
        q₃ = puts-more y y₂ y₃ (id_bytes f ++ part hs 0 cut) (who_bytes who) at n₂ n₃ r₂ q₂ p₃

        pub room-rest : Room y₃ n₃ (part hs cut (length hs))
        room-rest = room-right y y₃ (id_bytes f ++ part hs 0 cut ++ who_bytes who) (part hs cut (length hs)) at n₃ all q₃

        pub named-puts : (y₄ : List ℕ) (n₄ : ℕ) → Puts y₃ n₃ (part hs cut (length hs)) n₄ y₄ → Puts y at (named_bytes f who hs) n₄ y₄
        unfolding named_bytes
        named-puts y₄ n₄ p₄ =
            rw (← e) (puts-more y y₃ y₄ (id_bytes f ++ part hs 0 cut ++ who_bytes who) (part hs cut (length hs)) at n₃ n₄ all q₃ p₄)

-- ---- bounds of their lengths

pub id_at_most : (f : ConnectionId) → id_size f ≤ 5
id_at_most (Some i) = omega arith
id_at_most None = omega arith

pub who_at_most : (w : Place) → Ordered w → who_size w ≤ 65538
who_at_most None o = omega arith
who_at_most (Some p) o = omega (arith, o.0, o.1)

pub answer_at_most : (m : Named) (has : Bool) (n : ℕ) → pick has n 0 ≤ 255 → answer_size m has n ≤ 296
answer_at_most None has n h = omega arith
answer_at_most (Some m) true n h = omega arith
answer_at_most (Some m) false n h = omega arith

pub grant_at_most : (srm : Bool) → pick srm 2 0 ≤ 2
grant_at_most true = omega arith
grant_at_most false = omega arith

pub inside-ordered : (s : List ℕ) (w : Place) → Inside s w → length s ≤ 65535 → Ordered w
inside-ordered s None i h = tt
inside-ordered s (Some p) i h = (i.0, omega (arith, i.1))

-- ---- all of them

pub pieces-length : (s hs user password : List ℕ) (f : ConnectionId) (w : Place) (m : Named) (has srm : Bool) → Inside s w
    → size_of f w (length hs) m has (length user) srm ≡ length (named_bytes f (bytes_at s w) hs ++ added_bytes m (given has user) password srm)
unfolding named_bytes added_bytes
pieces-length s hs user password f w m has srm i =
    let cut = cut_at f hs in
    let a = id_bytes f in
    let b = part hs 0 cut in
    let c = who_bytes (bytes_at s w) in
    let d = part hs cut (length hs) in
    let x = answer_bytes m (given has user) password in
    let y = grant_bytes srm in
    omega (
      arith,
      length-append (a ++ b ++ c ++ d) (x ++ y),
      length-append (a ++ b ++ c) d,
      length-append (a ++ b) c,
      length-append a b,
      length-append x y,
      id_length f,
      grant-length srm,
      part_length hs 0 cut (cut-within f hs),
      part_length hs cut (length hs) (omega arith),
      cut-within f hs,
      who-length s w i,
      answer-bytes-length m has user password,
    )

-- ---- the challenge that is sent

pub realm-small : (has : Bool) (charset : ℕ) (realm : List ℕ) → overlong (given has (charset ∷ realm)) ≡ false → pick has (length realm) 0 ≤ 254
realm-small true charset realm e = omega (arith, ltb-false 255 (length (charset ∷ realm)) e)
realm-small false charset realm e = omega arith

challenge-tags-length : (n : Octets16) (o : ℕ) (has : Bool) (charset : ℕ) (realm : List ℕ)
    → length (write_tags (challenge_tags (octets16 n) o (given has (charset ∷ realm)))) ≡ 21 + pick has (2 + (length realm + 1)) 0
challenge-tags-length n o has charset realm =
    challenge-length (octets16 n) o (given has (charset ∷ realm)) (length-octets16 n) ∙ ap (λ (k : ℕ). 21 + k) (realm-length has realm charset)

pub challenge-bytes-length : (n : Octets16) (o : ℕ) (has : Bool) (charset : ℕ) (realm : List ℕ)
    → 24 + pick has (2 + (length realm + 1)) 0 ≡ length (bytes_of (challenge_header (octets16 n) o (given has (charset ∷ realm))))
unfolding challenge_header
challenge-bytes-length n o has charset realm =
    let v = write_tags (challenge_tags (octets16 n) o (given has (charset ∷ realm))) in
    omega (arith, bytes-length 0x4D v refl refl, challenge-tags-length n o has charset realm)

pub challenge-laid : (y z w : List ℕ) (n : Octets16) (o : ℕ) (has : Bool) (charset : ℕ) (realm : List ℕ) (size : ℕ) (r : Wrote)
    → overlong (given has (charset ∷ realm)) ≡ false → size ≡ 24 + pick has (2 + (length realm + 1)) 0
    → Room y 7 (bytes_of (challenge_header (octets16 n) o (given has (charset ∷ realm)))) → z ≡ laid y 7 (lead_bytes Bytes 0x4D (size - 3))
    → putting r w ≡ write_challenge z 10 n o (given has (charset ∷ realm)) → w ≡ laid y 7 (bytes_of (challenge_header (octets16 n) o (given has (charset ∷ realm))))
unfolding challenge_header write_challenge
challenge-laid y z w n o has charset realm size r f q room s p =
    let v = write_tags (challenge_tags (octets16 n) o (given has (charset ∷ realm))) in
    let l : length v ≡ size - 3 = omega (arith, q, challenge-tags-length n o has charset realm) in
    tags-laid y z w v 7 0x4D size r OneByte (overlong (given has (charset ∷ realm))) refl refl l
    (omega (arith, room.small, room.store, bytes-length 0x4D v refl refl)) s f p
