-- Packets of a Connect and of a Disconnect, and the replies to them, can be read at the other end, and say what they were made to say. Each is
-- made by the writer of packets from headers that read back. Assumes nothing.
use mathlib.Core.Path.{◌≡◌, refl, sym, ap, ◌∙◌}
use mathlib.Core.List.{List, [], ◌∷◌, ◌++◌}
use mathlib.Core.Bool.{Bool, true, false, ◌&&◌, ◌||◌, false≢true}
use mathlib.Core.Option.{Option, none, some}
use Prim.Native.Nat.{ℕ, zero, suc, ◌+◌, ◌/◌, ◌%◌, ◌≤◌, ◌<◌}
use native.Mathlib.Omega.{arith}
use lib.ListN.{length, length-append}
use lib.Dec.{ltb, leb, eqb}
use borrow.Author.Tests.{ltb-true, ltb-false, le-ltb, eqb-true}
use Rattle.base.specs.Pick.{pick}
use Rattle.base.specs.Bytes.{bytes16, bytes32}
use Rattle.text.specs.Unicode.{Octets}
use Rattle.packet.specs.HeaderIds as header_id
use Rattle.packet.specs.Modes.{is_mode}
use Rattle.packet.specs.Codes.{member, codes, is_code, sent_code}
use Rattle.packet.specs.FirstByte.{byte_of, first_byte, named}
use Rattle.packet.specs.Header.{Header, encoding_of, tagged, allowed, read_headers, first, bytes_of, all_bytes}
use Rattle.packet.specs.HeaderWriter.{header}
use Rattle.packet.specs.Packet.{request_of, connect_limit, packet_bytes}
use Rattle.packet.specs.ResponsePacket.{ResponsePacket, response_packet}
use Rattle.packet.specs.Tags.{Tag, is_readable, write_tags}
use Rattle.packet.specs.Auth.{Challenge, response_tags}
use Rattle.packet.specs.declared.opcode.Opcode.TheVariants as op
use Rattle.packet.proofs.HeaderBytes.{header-bytes}
use Rattle.packet.proofs.HeaderWrites.{Shaped, AllShaped, read-written, read_shaped}
use Rattle.packet.proofs.TagWrites as tag_writes
use Rattle.journal.specs.Calls.{Credentials}
use Rattle.journal.specs.Journal.{list_of}
use Rattle.incoming.proofs.Queued.{IsWhole}
use Rattle.connection.specs.Reply.{fields_of, send_bytes}
use Rattle.connection.specs.ConnectReply.{second, with_id, who_for, answer_with, grant, answered_challenge, connect_headers, challenge_header}
use Rattle.client_model.proofs.Conveyed.{shaped_append}
use Rattle.model.proofs.Fit.{and_left, and_right}
use Rattle.link.proofs.ConnectJoint.{fronted}

-- ---- codes

all_below : ℕ → List ℕ → Bool
all_below n [] = true
all_below n (y ∷ ys) = ltb y n && all_below n ys

member_below : (x n : ℕ) (l : List ℕ) → member x l ≡ true → all_below n l ≡ true → x < n
unfolding all_below
member_below x n [] e b = absurd (false≢true e)
member_below x n (y ∷ ys) e b =
    go (eqb x y) refl e (λ w. member_below x n ys w (and_right (ltb y n) (all_below n ys) b))
  where
    go : (t : Bool) → eqb x y ≡ t → (t || member x ys) ≡ true → (member x ys ≡ true → x < n) → x < n
    go true i w rest =
        let q = eqb-true x y i in
        let k = ltb-true y n (and_left (ltb y n) (all_below n ys) b) in
        omega (arith, q, k)
    go false i w rest = rest w

code-back : (code : ℕ) → is_code code ≡ true → sent_code code % 128 ≡ code
unfolding is_code codes all_below
code-back code e = let k = member_below code 128 codes e refl in omega (arith, k)

-- ---- a reply

-- what it says: its code and its headers, and for a Connect the limit
abbrev pub response_of : ℕ → List ℕ → List Header → ResponsePacket
response_of code y l = record { code = code; final = leb 128 (sent_code code); bytes = y; headers = l }

pub record Read (connect : Bool) (code : ℕ) (y : List ℕ) (l : List Header) : Type 0 where
  pub whole-packet : IsWhole y
  pub reads : response_packet connect y ≡ some (response_of code y l)

pub fields_read : (code m : ℕ) (l : List Header) → is_code code ≡ true → AllShaped l → 7 + length (all_bytes l) ≤ 65535
    → Read true code (packet_bytes (sent_code code) (fields_of m) (all_bytes l)) l
unfolding packet_bytes response_packet
fields_read code m l c w n =
    let y = packet_bytes (sent_code code) (fields_of m) (all_bytes l) in
    let b = code-back code c in
    record {
      whole-packet = record { least = omega arith; most = omega arith; field = omega arith };
      reads =
          rw (b, c, le-ltb (length y) 7 (omega arith), read-written l y 7 w refl)
          (ap (λ (n : ℕ). some (record { code = n; final = leb 128 (sent_code code); bytes = y; headers = l })) b);
    }

pub fields_limit : (b m : ℕ) (hs : List ℕ) → connect_limit (packet_bytes b (fields_of m) hs) ≡ m
unfolding connect_limit packet_bytes
fields_limit b m hs = omega arith

pub plain-read : (code : ℕ) (l : List Header) → is_code code ≡ true → AllShaped l → 3 + length (all_bytes l) ≤ 65535
    → Read false code (packet_bytes (sent_code code) [] (all_bytes l)) l
unfolding packet_bytes response_packet
plain-read code l c w n =
    let y = packet_bytes (sent_code code) [] (all_bytes l) in
    let b = code-back code c in
    record {
      whole-packet = record { least = omega arith; most = omega arith; field = omega arith };
      reads =
          rw (b, c, le-ltb (length y) 3 (omega arith), read-written l y 3 w refl)
          (ap (λ (n : ℕ). some (record { code = n; final = leb 128 (sent_code code); bytes = y; headers = l })) b);
    }

-- the bytes that are sent, if they are: the reply, or 0x50 in its place
pub data Sends (code : ℕ) (fields hs y : List ℕ) : Type 0 where
  as_given : y ≡ packet_bytes (sent_code code) fields hs → 3 + length fields + length hs ≤ 65535 → Sends code fields hs y
  replaced : y ≡ packet_bytes (sent_code 0x50) fields [] → Sends code fields hs y

pub sends_by : (remote code : ℕ) (fields hs y : List ℕ) → send_bytes remote code fields hs ≡ some y → Sends code fields hs y
unfolding send_bytes
sends_by remote code fields hs y e = go (ltb 65535 (3 + length fields + length hs)) (ltb remote (3 + length fields + length hs)) refl e
  where
    go : (t u : Bool) → ltb 65535 (3 + length fields + length hs) ≡ t
        → pick t none (pick u (some (packet_bytes (sent_code 0x50) fields [])) (some (packet_bytes (sent_code code) fields hs))) ≡ some y
        → Sends code fields hs y
    go true u i w = absurd (let z : ◌≡◌ {A = ℕ} 0 1 = cc in omega arith)
    go false true i w = let z : packet_bytes (sent_code 0x50) fields [] ≡ y = cc in replaced (sym z)
    go false false i w = let z : packet_bytes (sent_code code) fields hs ≡ y = cc in as_given (sym z) (ltb-false _ _ i)

pub internal_code : is_code 0x50 ≡ true
unfolding is_code codes
internal_code = refl

-- ---- the headers of the reply to a Connect

-- a list of tags is allowed
tags_shaped : (ts : List Tag) → (Shaped (header header_id.authenticate_challenge (write_tags ts)))
    × (Shaped (header header_id.authenticate_response (write_tags ts)))
unfolding encoding_of allowed tagged
tags_shaped ts =
    let e = ap is_readable (tag_writes.write_read ts) in
    (record { sized = tt; is_allowed = e }, record { sized = tt; is_allowed = e })

pub challenge_shaped : (nonce : List ℕ) (options : ℕ) (realm : Option (List ℕ)) → AllShaped (challenge_header nonce options realm ∷ [])
unfolding challenge_header
challenge_shaped nonce options realm = ((tags_shaped _).0, tt)

id_shaped : (i : ℕ) → Shaped (header header_id.connection_id (bytes32 i))
unfolding encoding_of allowed tagged
id_shaped i = record { sized = refl; is_allowed = refl }

who_shaped : (v : List ℕ) → Shaped (header header_id.who v)
unfolding encoding_of allowed tagged
who_shaped v = record { sized = tt; is_allowed = refl }

grant_shaped : (b : Bool) → AllShaped (grant b)
unfolding encoding_of allowed tagged is_mode
grant_shaped false = tt
grant_shaped true = (record { sized = refl; is_allowed = refl }, tt)

with_shaped : (i : Option ℕ) (hs : List Header) → AllShaped hs → AllShaped (with_id i hs)
with_shaped none hs w = w
with_shaped (some i) hs w = (id_shaped i, w)

second_shaped : (x : Header) (hs : List Header) → Shaped x → AllShaped hs → AllShaped (second x hs)
second_shaped x [] v w = (v, tt)
second_shaped x (h ∷ hs) v w = (w.0, (v, w.1))

named_shaped : (t w : Option (List ℕ)) (hs : List Header) → AllShaped hs → AllShaped (who_for t w hs)
named_shaped none w hs v = v
named_shaped (some t) none hs v = second_shaped (header header_id.who t) hs (who_shaped t) v
named_shaped (some t) (some w) hs v = v

answer_shaped : (ch : Option Challenge) (c : Option Credentials) → AllShaped (answer_with ch c)
answer_shaped none c = tt
answer_shaped (some ch) none = tt
answer_shaped (some ch) (some c) = ((tags_shaped (response_tags ch.nonce c.user c.password)).1, tt)

pub connect_shaped : (i : Option ℕ) (request answer : List Header) (c : Option Credentials) (srm : Bool) → AllShaped answer
    → AllShaped (connect_headers i request answer c srm)
unfolding connect_headers
connect_shaped i request answer c srm w =
    let n = who_for (first header_id.target request) (first header_id.who answer) (with_id i answer) in
    let a = answer_with (answered_challenge request) c in
    shaped_append (n ++ a) (grant srm)
    (shaped_append n a (named_shaped (first header_id.target request) (first header_id.who answer) (with_id i answer) (with_shaped i answer w))
    (answer_shaped (answered_challenge request) c))
    (grant_shaped srm)

-- headers that were read, or none
pub listed_shaped : (hs : List ℕ) → AllShaped (list_of (read_headers hs 0))
listed_shaped hs = go (read_headers hs 0) refl
  where
    go : (r : Option (List Header)) → read_headers hs 0 ≡ r → AllShaped (list_of r)
    go none e = tt
    go (some l) e = read_shaped hs 0 l e

-- ---- the ConnectionID that it names

first-append : (a b : List Header) → first header_id.connection_id b ≡ none → first header_id.connection_id (a ++ b) ≡ first header_id.connection_id a
unfolding first
first-append [] b e = e
first-append (h ∷ a) b e = ap (λ (v : Option (List ℕ)). pick (eqb h.id header_id.connection_id) (some h.value) v) (first-append a b e)

first-grant : (b : Bool) → first header_id.connection_id (grant b) ≡ none
unfolding first
first-grant false = refl
first-grant true = refl

first-answer : (ch : Option Challenge) (c : Option Credentials) → first header_id.connection_id (answer_with ch c) ≡ none
unfolding first
first-answer none c = refl
first-answer (some ch) none = refl
first-answer (some ch) (some c) = refl

first-second : (v : List ℕ) (hs : List Header) → first header_id.connection_id (second (header header_id.who v) hs) ≡ first header_id.connection_id hs
unfolding first
first-second v [] = refl
first-second v (h ∷ hs) = refl

first-who : (t w : Option (List ℕ)) (hs : List Header) → first header_id.connection_id (who_for t w hs) ≡ first header_id.connection_id hs
first-who none w hs = refl
first-who (some t) none hs = first-second t hs
first-who (some t) (some w) hs = refl

first_id : (i : Option ℕ) (hs : List Header) → first header_id.connection_id (with_id i hs) ≡ fronted i (first header_id.connection_id hs)
unfolding first
first_id none hs = refl
first_id (some i) hs = refl

pub first_connect : (i : Option ℕ) (request answer : List Header) (c : Option Credentials) (srm : Bool)
    → first header_id.connection_id (connect_headers i request answer c srm) ≡ fronted i (first header_id.connection_id answer)
unfolding connect_headers
first_connect i request answer c srm =
    let n = who_for (first header_id.target request) (first header_id.who answer) (with_id i answer) in
    let a = answer_with (answered_challenge request) c in
    first-append (n ++ a) (grant srm) (first-grant srm) ∙ first-append n a (first-answer (answered_challenge request) c)
    ∙ first-who (first header_id.target request) (first header_id.who answer) (with_id i answer) ∙ first_id i answer

-- ---- the client's packets

pub connect_reads : (m : ℕ) (hs : List ℕ) (l : List Header) → Octets hs → read_headers hs 0 ≡ some l
    → let q = packet_bytes (byte_of op.Connect true) (fields_of m) hs in
    request_of q ≡ some (record { opcode = op.Connect; final = true; bytes = q; headers = l })
unfolding packet_bytes request_of byte_of first_byte named
connect_reads m hs l o e =
    let q = packet_bytes (byte_of op.Connect true) (fields_of m) hs in
    rw (le-ltb (length q) 7 (omega arith), read-written l q 7 (read_shaped hs 0 l e) (sym (header-bytes hs 0 l o e))) refl

pub disconnect_reads : (l : List Header) → AllShaped l
    → let q = packet_bytes (byte_of op.Disconnect true) [] (all_bytes l) in
    request_of q ≡ some (record { opcode = op.Disconnect; final = true; bytes = q; headers = l })
unfolding packet_bytes request_of byte_of first_byte named
disconnect_reads l w =
    let q = packet_bytes (byte_of op.Disconnect true) [] (all_bytes l) in
    rw (le-ltb (length q) 3 (omega arith), read-written l q 3 w refl) refl

pub packet-whole : (b : ℕ) (fields hs : List ℕ) → length fields ≤ 4 → 3 + length fields + length hs ≤ 65535 → IsWhole (packet_bytes b fields hs)
unfolding packet_bytes
packet-whole b fields hs f n =
    let e = length-append fields hs in
    record { least = omega arith; most = omega (arith, e); field = omega (arith, e) }

-- ---- bytes are bytes

octets-more : (x : ℕ) (l : List ℕ) → x < 256 → Octets l → Octets (x ∷ l)
octets-more x l h o zero = h
octets-more x l h o (suc k) = o k

pub octets-append : (a b : List ℕ) → Octets a → Octets b → Octets (a ++ b)
octets-append [] b o p = p
octets-append (x ∷ a) b o p = octets-more x (a ++ b) (o 0) (octets-append a b (λ k. o (suc k)) p)

pub octets-none : Octets []
octets-none k = omega arith

pub octets16 : (n : ℕ) → n ≤ 65535 → Octets (bytes16 n)
octets16 n h = octets-more (n / 256) (n % 256 ∷ []) (omega arith) (octets-more (n % 256) [] (omega arith) octets-none)

pub packet-octets : (b : ℕ) (fields hs : List ℕ) → b < 256 → 3 + length fields + length hs ≤ 65535 → Octets fields → Octets hs
    → Octets (packet_bytes b fields hs)
unfolding packet_bytes
packet-octets b fields hs s n f o =
    octets-more b (bytes16 (3 + length fields + length hs) ++ (fields ++ hs)) s
    (octets-append (bytes16 (3 + length fields + length hs)) (fields ++ hs) (octets16 (3 + length fields + length hs) n)
    (octets-append fields hs f o))

pub fields_octets : (m : ℕ) → m ≤ 65535 → Octets (fields_of m)
fields_octets m h = octets-more 0x10 (0x00 ∷ bytes16 m) (omega arith) (octets-more 0x00 (bytes16 m) (omega arith) (octets16 m h))

pub id_octets : (i : ℕ) → Octets (bytes_of (header header_id.connection_id (bytes32 i)))
unfolding bytes_of encoding_of
id_octets i =
    let a = i / 16777216 % 256 in
    let b = i / 65536 % 256 in
    let c = i / 256 % 256 in
    let d = i % 256 in
    octets-more 0xCB (a ∷ b ∷ c ∷ d ∷ []) (omega arith)
    (octets-more a (b ∷ c ∷ d ∷ []) (omega arith)
    (octets-more b (c ∷ d ∷ []) (omega arith) (octets-more c (d ∷ []) (omega arith) (octets-more d [] (omega arith) octets-none))))
