-- A reply in its store: its pieces one after the other, and what is sent by its length. Assumes nothing.
use Rattle.std.proofs.Common.{◌≡◌, ℕ, ◌+◌, ◌<◌, ◌≤◌, Bool, true, false, ltb, List, [], ◌∷◌, length, set, sym, refl, ap, ◌∙◌, true≢false, arith, ltb-false, le-ltb, lt-ltb}
use mathlib.Core.Option.{Option, none, some}
use lib.Seq.{paste, sets}
use Rattle.std.specs.Prelude.{Some, None}
use Rattle.base.specs.Pick.{pick}
use Rattle.base.specs.Bytes.{bytes16}
use Rattle.packet.specs.Codes.{sent_code}
use Rattle.packet.specs.Packet.{packet_bytes}
use Rattle.packet.proofs.PacketWrites.{packet-length}
use Rattle.connection.specs.declared.reply.Begun.{Begun}
use Rattle.connection.specs.declared.reply.Fit.{Fit}
use Rattle.connection.specs.declared.reply.Fit.TheVariants.{Whole, Replaced, TooLarge}
use Rattle.connection.specs.Reply.{fields_of, start_bytes, send_bytes, fit_of_of, front, sending, sent_into, Beginning, beginning, begins_by}
use Rattle.connection.proofs.Front.{front_length, front-sets, front-paste}
use Rattle.packet.specs.Placed.{laid}
use Rattle.connection.specs.Pieces.{Room}

-- ---- what a length leads to

abbrev by_fit : Fit → Option (List ℕ) → Option (List ℕ) → Option (List ℕ)
by_fit TooLarge a b = none
by_fit Replaced a b = a
by_fit Whole a b = b

pub sends_by : (remote code : ℕ) (fields hs : List ℕ) (f : Fit) → f ≡ fit_of_of remote (3 + length fields + length hs)
    → send_bytes remote code fields hs ≡ by_fit f (some (packet_bytes (sent_code 0x50) fields [])) (some (packet_bytes (sent_code code) fields hs))
unfolding send_bytes
sends_by remote code fields hs f e =
    rw e (go (ltb 65535 (3 + length fields + length hs)) (ltb remote (3 + length fields + length hs)))
  where
    a : Option (List ℕ)
    a = some (packet_bytes (sent_code 0x50) fields [])

    b : Option (List ℕ)
    b = some (packet_bytes (sent_code code) fields hs)

    go : (t u : Bool) → pick t none (pick u a b) ≡ by_fit (pick t TooLarge (pick u Replaced Whole)) a b
    go true u = refl
    go false true = refl
    go false false = refl

-- only a reply that is not too large is sent whole
pub whole-bound : (remote n : ℕ) → Whole ≡ fit_of_of remote n → n ≤ 65535
whole-bound remote n e = go (ltb 65535 n) refl e
  where
    go : (t : Bool) → ltb 65535 n ≡ t → Whole ≡ pick t TooLarge (pick (ltb remote n) Replaced Whole) → n ≤ 65535
    go true q d = absurd (let z : ◌≡◌ {A = ℕ} 0 1 = cc in omega arith)
    go false q d = ltb-false 65535 n q

-- ---- the code's test of a length in two parts

pub too_large : (remote n : ℕ) → 65535 < n → TooLarge ≡ fit_of_of remote n
too_large remote n h = rw (lt-ltb 65535 n h)

pub replaced : (remote n : ℕ) → n ≤ 65535 → remote < n → Replaced ≡ fit_of_of remote n
replaced remote n h k = rw (le-ltb 65535 n h, lt-ltb remote n k)

pub whole : (remote n : ℕ) → n ≤ 65535 → n ≤ remote → Whole ≡ fit_of_of remote n
whole remote n h k = rw (le-ltb 65535 n h, le-ltb remote n k)

-- ---- the code's answer and the store, by the same

module _ (y : List ℕ) (remote code : ℕ) (fields hs : List ℕ) (f : Fit) (e : f ≡ fit_of_of remote (3 + length fields + length hs)) where
  sends : (n : ℕ) (z q : List ℕ) → n ≡ length q → z ≡ front q y → sending (Some n) z ≡ sending (Some (length q)) (front q y)
  sends n z q a b = rw (a, b)

  pub sent-none : f ≡ TooLarge → sending None y ≡ sent_into (send_bytes remote code fields hs) y
  sent-none k = rw (sends_by remote code fields hs f e, k)

  pub sent_replaced : f ≡ Replaced → (n : ℕ) (z : List ℕ) → n ≡ 3 + length fields → z ≡ front (packet_bytes (sent_code 0x50) fields []) y
      → sending (Some n) z ≡ sent_into (send_bytes remote code fields hs) y
  sent_replaced k n z a b =
      let q = packet_bytes (sent_code 0x50) fields [] in
      rw (sends_by remote code fields hs f e, k) (sends n z q (omega (arith, a, packet-length (sent_code 0x50) fields [])) b)

  pub sent-whole : f ≡ Whole → (n : ℕ) (z : List ℕ) → n ≡ 3 + length fields + length hs → z ≡ front (packet_bytes (sent_code code) fields hs) y
      → sending (Some n) z ≡ sent_into (send_bytes remote code fields hs) y
  sent-whole k n z a b =
      let q = packet_bytes (sent_code code) fields hs in
      rw (sends_by remote code fields hs f e, k) (sends n z q (a ∙ sym (packet-length (sent_code code) fields hs)) b)

  pub whole-fits : f ≡ Whole → 3 + length fields + length hs ≤ 65535
  whole-fits k = whole-bound remote (3 + length fields + length hs) (sym k ∙ e)

-- ---- a packet's pieces

-- a prefix alone; with headers after it; with two bytes after it
pub prefix_alone : (y : List ℕ) (b : ℕ) → front (b ∷ bytes16 3) y ≡ front (packet_bytes b [] []) y
unfolding packet_bytes
prefix_alone y b = refl

pub prefix-headers : (y hs : List ℕ) (b : ℕ) → 3 + length hs ≤ length y
    → paste (front (b ∷ bytes16 (3 + length hs)) y) 3 hs (length hs) ≡ front (packet_bytes b [] hs) y
unfolding packet_bytes
prefix-headers y hs b h = front-paste (b ∷ bytes16 (3 + length hs)) y hs h

pub prefix-two : (y : List ℕ) (b v w : ℕ) → 5 ≤ length y → set (set (front (b ∷ bytes16 5) y) 3 v) 4 w ≡ front (packet_bytes b [] (v ∷ (w ∷ []))) y
unfolding packet_bytes
prefix-two y b v w h = front-sets (v ∷ (w ∷ [])) (b ∷ bytes16 5) y 3 refl h

-- with Connect's fields after it; and alone, or with headers after those
pub prefix_fields : (y z : List ℕ) (b n limit : ℕ) → z ≡ front (b ∷ bytes16 n) y → 7 ≤ length y → sets z 3 (fields_of limit) ≡ front (start_bytes b n limit) y
prefix_fields y z b n limit e h = rw e (front-sets (fields_of limit) (b ∷ bytes16 n) y 3 refl h)

pub start_alone : (y : List ℕ) (b limit : ℕ) → front (start_bytes b 7 limit) y ≡ front (packet_bytes b (fields_of limit) []) y
unfolding packet_bytes
start_alone y b limit = refl

pub start-headers : (y hs : List ℕ) (b limit : ℕ) → 7 + length hs ≤ length y
    → paste (front (start_bytes b (7 + length hs) limit) y) 7 hs (length hs) ≡ front (packet_bytes b (fields_of limit) hs) y
unfolding packet_bytes
start-headers y hs b limit h = front-paste (start_bytes b (7 + length hs) limit) y hs h

-- ---- a reply to a Connect begun, whose headers l take size bytes

module _ (y l : List ℕ) (remote code limit size : ℕ) (q : size ≡ length l) (r : Begun) (z : List ℕ)
    (b : beginning r z ≡ begins_by (fit_of_of remote (7 + size)) code limit size y) where
  fit_of : (f : Fit) → fit_of_of remote (7 + size) ≡ f → f ≡ fit_of_of remote (3 + length (fields_of limit) + length l)
  fit_of f e = sym e ∙ ap (λ (n : ℕ). fit_of_of remote (7 + n)) q

  begins : (f : Fit) → fit_of_of remote (7 + size) ≡ f → beginning r z ≡ begins_by f code limit size y
  begins f e = b ∙ ap (λ (f : Fit). begins_by f code limit size y) e

  follows : (f : Fit) → fit_of_of remote (7 + size) ≡ f → r.whole ≡ (begins_by f code limit size y).answer.whole
  follows f e = ap (λ (x : Beginning). x.answer.whole) (begins f e)

  -- no headers follow
  pub begun-sent : r.whole ≡ false → sending r.sent z ≡ sent_into (send_bytes remote code (fields_of limit) l) y
  begun-sent k = go (fit_of_of remote (7 + size)) refl
    where
      told : (f : Fit) → fit_of_of remote (7 + size) ≡ f → let x = begins_by f code limit size y in sending r.sent z ≡ sending x.answer.sent x.reply
      told f e = ap (λ (x : Beginning). sending x.answer.sent x.reply) (begins f e)

      go : (f : Fit) → fit_of_of remote (7 + size) ≡ f → sending r.sent z ≡ sent_into (send_bytes remote code (fields_of limit) l) y
      go TooLarge e = told TooLarge e ∙ sent-none y remote code (fields_of limit) l TooLarge (fit_of TooLarge e) refl
      go Replaced e =
          told Replaced e
          ∙ sent_replaced y remote code (fields_of limit) l Replaced (fit_of Replaced e) refl 7 _ refl (start_alone y (sent_code 0x50) limit)
      go Whole e = absurd (true≢false (sym (follows Whole e) ∙ k))

  -- headers follow
  module _ (k : r.whole ≡ true) where
    whole-fit : fit_of_of remote (7 + size) ≡ Whole
    whole-fit = go (fit_of_of remote (7 + size)) refl
      where
        go : (f : Fit) → fit_of_of remote (7 + size) ≡ f → f ≡ Whole
        go TooLarge e = absurd (true≢false (sym k ∙ follows TooLarge e))
        go Replaced e = absurd (true≢false (sym k ∙ follows Replaced e))
        go Whole e = refl

    begun-store : z ≡ front (start_bytes (sent_code code) (7 + size) limit) y
    begun-store = ap (λ (x : Beginning). x.reply) (begins Whole whole-fit)

    pub begun-fits : 7 + size ≤ 65535
    begun-fits = whole-bound remote (7 + size) (sym whole-fit)

    module _ (h : 65535 ≤ length y) where
      pub begun-room : Room z 7 l
      begun-room =
          let n = begun-fits in
          record {
            small = omega (arith, n, q);
            store = omega (arith, h, ap length begun-store ∙ front_length (start_bytes (sent_code code) (7 + size) limit) y (omega (arith, h)));
          }

      pub begun-whole : (w : List ℕ) → w ≡ laid z 7 l → sending r.sent w ≡ sent_into (send_bytes remote code (fields_of limit) l) y
      begun-whole w t =
          let n = begun-fits in
          let s = begun-store ∙ ap (λ (m : ℕ). front (start_bytes (sent_code code) (7 + m) limit) y) q in
          ap (λ (x : Beginning). sending x.answer.sent w) (begins Whole whole-fit)
          ∙ sent-whole y remote code (fields_of limit) l Whole (fit_of Whole whole-fit) refl (7 + size) w (ap (λ (m : ℕ). 7 + m) q)
          (t ∙ ap (λ (d : List ℕ). laid d 7 l) s ∙ start-headers y l (sent_code code) limit (omega (arith, n, h, q)))
