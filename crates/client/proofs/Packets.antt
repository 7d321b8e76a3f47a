-- The packets of requests as the code makes them, and what follows them. Assumes nothing.
use mathlib.Core.Path.{◌≡◌, refl, sym, ap, ◌∙◌, subst}
use mathlib.Core.Bool.{Bool, true, false, ◌&&◌, not}
use mathlib.Core.List.{List, [], ◌∷◌, ◌++◌}
use Prim.Native.Nat.{ℕ, ◌+◌, ◌/◌, ◌%◌, ◌≤◌}
use native.Mathlib.Omega.{arith}
use denote.Enum.Declared.{tag_of}
use types.Run.{OneOf, miss}
use lib.ListN.{length, take, length-append}
use lib.Seq.{paste}
use Rattle.std.specs.Prelude.{Some, None}
use Rattle.base.specs.Pick.{pick}
use Rattle.base.specs.Bytes.{bytes16}
use Rattle.packet.specs.Header.{all_bytes, bytes_of, encoding_of}
use Rattle.packet.specs.Packet.{packet_bytes}
use Rattle.packet.specs.Placed.{laid}
use Rattle.packet.specs.FirstByte.{byte_of}
use Rattle.packet.specs.declared.opcode.Opcode.TheVariants as op
use Rattle.outgoing.specs.Object.{Made, made, next_after}
use Rattle.outgoing.specs.Queue.{must_lead, insert_early}
use Rattle.outgoing.specs.declared.object.Outgoing.{Outgoing}
use Rattle.outgoing.specs.declared.object.NextPacket.{NextPacket}
use Rattle.outgoing.specs.declared.object.Next.{Next}
use Rattle.outgoing.specs.declared.object.Next.TheVariants as next
use Rattle.connection.specs.Reply.{front, start_bytes, fields_of}
use Rattle.connection.specs.Peer.{ConnectionId}
use Rattle.connection.proofs.Front.{front-paste}
use Rattle.client_model.specs.declared.Kind.{Kind}
use Rattle.client_model.specs.declared.Operation.{Operation}
use Rattle.client_model.specs.declared.Operation.TheVariants.{Nothing, Connecting, Disconnecting, Requesting, Receiving, Aborting}
use Rattle.client_model.specs.declared.Await.TheVariants as await
use Rattle.client_model.specs.declared.Client.{Client}
use Rattle.client_model.specs.declared.Outcome.TheVariants as outcome
use Rattle.client_model.specs.declared.CallResult.{CallResult}
use Rattle.client_model.specs.Leading.{leading_headers, leading}
use Rattle.client_model.specs.Step.{Stores, stores, with_request, Stepped, stepped, after, goes, sends, wants, capacity_of, Done}
use Rattle.client_model.specs.Request.{requests_by, requests, requests_next, request_of, requests_first, id_bytes, sends_abort}
use Rattle.client_model.specs.Calls.{sent_for}
use Rattle.client_model.specs.contracts.Operation.{the_type}
use Rattle.outgoing.specs.contracts.object.Next.{the_type as next-type}
use Rattle.client_model.specs.Guard.{sound_operation}
use Rattle.client.proofs.Guards.{request-fits}
use Rattle.client.specs.Step.{took_by}
use Rattle.client.specs.Request.{requested_by, first_put, goes_next, turn_of}
use Rattle.client.specs.declared.request.Turn.{Turn}
use Rattle.std.specs.Prelude.{Option, None, Some}

-- ---- the headers that lead

abbrev pub IsLead : ConnectionId → Bool → List ℕ → ℕ → Type 0
IsLead id srm b n = (take n b ≡ leading id srm) × (n ≡ length (leading id srm)) × (n ≤ 7) × (length b ≡ 7)

module _ (id : ConnectionId) (srm : Bool) where
  pub leads-both : (i : ℕ) → id ≡ Some i → srm ≡ true
      → IsLead id srm (0xCB ∷ i / 16777216 % 256 ∷ i / 65536 % 256 ∷ i / 256 % 256 ∷ i % 256 ∷ 0x97 ∷ 0x01 ∷ []) 7
  unfolding leading leading_headers insert_early must_lead all_bytes bytes_of encoding_of
  leads-both i e k = rw (e, k) (refl, refl, omega arith, refl)

  pub leads_id : (i : ℕ) → id ≡ Some i → srm ≡ false
      → IsLead id srm (0xCB ∷ i / 16777216 % 256 ∷ i / 65536 % 256 ∷ i / 256 % 256 ∷ i % 256 ∷ 0x97 ∷ 0x01 ∷ []) 5
  unfolding leading leading_headers insert_early must_lead all_bytes bytes_of encoding_of
  leads_id i e k = rw (e, k) (refl, refl, omega arith, refl)

  pub leads-mode : id ≡ None → srm ≡ true → IsLead id srm (0x97 ∷ 0x01 ∷ 0 ∷ 0 ∷ 0 ∷ 0 ∷ 0 ∷ []) 2
  unfolding leading leading_headers insert_early must_lead all_bytes bytes_of encoding_of
  leads-mode e k = rw (e, k) (refl, refl, omega arith, refl)

  pub leads-none : id ≡ None → srm ≡ false → IsLead id srm (0x97 ∷ 0x01 ∷ 0 ∷ 0 ∷ 0 ∷ 0 ∷ 0 ∷ []) 0
  unfolding leading leading_headers insert_early must_lead all_bytes bytes_of encoding_of
  leads-none e k = rw (e, k) (refl, refl, omega arith, refl)

-- ---- packets at the front of the request store

packet-length : (b : ℕ) (f hs : List ℕ) → length (packet_bytes b f hs) ≡ 3 + length f + length hs
unfolding packet_bytes
packet-length b f hs = omega (arith, length-append f hs)

-- the prefix, and the ConnectionID behind it
pub begun : (byte : ℕ) (lead l y y₁ y₂ : List ℕ) (size n : ℕ) → l ≡ lead → size ≡ n → y₁ ≡ laid y 0 (byte ∷ bytes16 size)
    → y₂ ≡ paste y₁ 3 l (length l) → 3 + length lead ≤ length y → y₂ ≡ front (byte ∷ (bytes16 n ++ lead)) y
begun byte lead l y y₁ y₂ size n e m h k r =
    let q = byte ∷ bytes16 n in
    let a : y₁ ≡ front q y = h ∙ ap (λ (i : ℕ). laid y 0 (byte ∷ bytes16 i)) m ∙ front-paste [] y q (omega arith) in
    k ∙ ap (λ (x : List ℕ). paste y₁ 3 x (length x)) e ∙ ap (λ (x : List ℕ). paste x 3 lead (length lead)) a ∙ front-paste q y lead (omega arith)

module _ (c : Client) (o : Operation) (q y : List ℕ) (r : CallResult) (n : ℕ) (y₁ : List ℕ) where
  -- a packet that waits to be sent
  pub sent-call : r ≡ took_by (goes c o await.Sent false) (outcome.Send n) → n ≡ length q → y₁ ≡ front q y → (s : Stores)
      → stepped r (with_request s y₁) ≡ after 0 (sends c o q (with_request s y))
  sent-call h e k s =
      ap (λ (x : CallResult). stepped x (with_request s y₁)) h
      ∙ ap (λ (m : ℕ). stepped (took_by (goes c o await.Sent false) (outcome.Send m)) (with_request s y₁)) e
      ∙ ap (λ (z : List ℕ). stepped (took_by (goes c o await.Sent false) (outcome.Send (length q))) (with_request s z)) k

-- a Connect: what stands before its headers, and the headers
pub connect_front : (t b limit n : ℕ) (hs y y₁ y₂ : List ℕ) → t ≡ b → n ≡ 7 + length hs → y₁ ≡ front (start_bytes t n limit) y
    → y₂ ≡ paste y₁ 7 hs (length hs) → 7 + length hs ≤ length y → y₂ ≡ front (packet_bytes b (fields_of limit) hs) y
unfolding packet_bytes
connect_front t b limit n hs y y₁ y₂ i e h k r =
    let m : n ≡ 3 + length (fields_of limit) + length hs = omega arith in
    k ∙ ap (λ (x : List ℕ). paste x 7 hs (length hs)) (h ∙ ap (λ (x : ℕ). front (start_bytes x n limit) y) i)
    ∙ front-paste (start_bytes b n limit) y hs (omega arith)
    ∙ ap (λ (i : ℕ). front (b ∷ (bytes16 i ++ (fields_of limit ++ hs))) y) m

pub connect_length_lem : (b limit n : ℕ) (hs : List ℕ) → n ≡ 7 + length hs → n ≡ length (packet_bytes b (fields_of limit) hs)
connect_length_lem b limit n hs e = omega (arith, packet-length b (fields_of limit) hs)

-- a Disconnect: the ConnectionID, and the headers
pub disconnect_front : (t b n at : ℕ) (id hs y y₁ y₂ : List ℕ) → t ≡ b → at ≡ 3 + length id → n ≡ length hs
    → y₁ ≡ front (t ∷ (bytes16 (3 + length id + n) ++ id)) y
    → y₂ ≡ paste y₁ at hs (length hs) → 3 + length id + length hs ≤ length y → y₂ ≡ front (packet_bytes b [] (id ++ hs)) y
unfolding packet_bytes
disconnect_front t b n at id hs y y₁ y₂ i a e h k r =
    let q = b ∷ (bytes16 (3 + length id + n) ++ id) in
    let l : at ≡ length q = omega arith in
    let m : 3 + length id + n ≡ 3 + 0 + length (id ++ hs) = omega (arith, length-append id hs) in
    k ∙ ap (λ (i : ℕ). paste y₁ i hs (length hs)) l
    ∙ ap (λ (x : List ℕ). paste x (length q) hs (length hs)) (h ∙ ap (λ (x : ℕ). front (x ∷ (bytes16 (3 + length id + n) ++ id)) y) i)
    ∙ front-paste q y hs (omega arith)
    ∙ ap (λ (i : ℕ). front (b ∷ (bytes16 i ++ (id ++ hs))) y) m

pub disconnect_length : (b at n : ℕ) (id hs : List ℕ) → at ≡ 3 + length id → n ≡ length hs → at + n ≡ length (packet_bytes b [] (id ++ hs))
disconnect_length b at n id hs a e = omega (arith, packet-length b [] (id ++ hs), length-append id hs)

-- an Abort: the ConnectionID alone
pub abort_front : (t b : ℕ) (id y y₁ : List ℕ) → t ≡ b → y₁ ≡ front (t ∷ (bytes16 (3 + length id + 0) ++ id)) y → y₁ ≡ front (packet_bytes b [] id) y
unfolding packet_bytes
abort_front t b id y y₁ i h =
    let m : 3 + length id + 0 ≡ 3 + 0 + length id = omega arith in
    h ∙ ap (λ (x : ℕ). front (x ∷ (bytes16 (3 + length id + 0) ++ id)) y) i ∙ ap (λ (i : ℕ). front (b ∷ (bytes16 i ++ id)) y) m

pub abort_length : (b n : ℕ) (id : List ℕ) → n ≡ 3 + length id → n ≡ length (packet_bytes b [] id)
abort_length b n id e = omega (arith, packet-length b [] id)

pub abort_call : (c : Client) (y : List ℕ) (r : CallResult) (y₁ : List ℕ) (s : Stores)
    → stepped r (with_request s y₁) ≡ after 0
    (sends c Aborting (packet_bytes (byte_of op.Abort true) [] (id_bytes c.connection_id)) (with_request s y))
    → stepped r (with_request s y₁) ≡ after 0 (sends_abort c (with_request s y))
unfolding sends_abort
abort_call c y r y₁ s h = h

pub ask_length : (b : ℕ) → 3 ≡ length (packet_bytes b [] [])
ask_length b = sym (packet-length b [] [])

pub ask_front : (t b : ℕ) (y y₁ : List ℕ) → t ≡ b → y₁ ≡ front (packet_bytes t [] []) y → y₁ ≡ front (packet_bytes b [] []) y
ask_front t b y y₁ i h = h ∙ ap (λ (x : ℕ). front (packet_bytes x [] []) y) i

-- ---- a packet of a Put or a Get that was made or begun

-- a packet that is not whole gets no first byte
pub no_first : (n : Next) (k : Kind) (y : List ℕ) → OneOf (1 ∷ 2 ∷ []) (tag_of next-type n) → y ≡ first_put n k y
no_first (next.Send n last) k y w = absurd (miss (1 ∷ 2 ∷ []) 0 tt w)
no_first next.Read k y w = refl
no_first next.TooLarge k y w = refl

made_by : (n : Next) (c : Client) (k : Kind) (srm first : Bool) (m : NextPacket) (y : List ℕ) (s : Stores)
    → stepped (requested_by n c k srm first m) (with_request s (first_put n k y)) ≡ after 0 (requests_by n c k srm first (made m y) s)
made_by (next.Send n last) c k srm first m y s = refl
made_by next.Read c k srm first m y s = refl
made_by next.TooLarge c k srm first m y s = refl

pub made-call : (c : Client) (k : Kind) (srm first : Bool) (m : NextPacket) (y y₁ : List ℕ) (r : CallResult)
    → r ≡ requested_by m.next c k srm first m → y₁ ≡ first_put m.next k y → (s : Stores)
    → stepped r (with_request s y₁) ≡ after 0 (requests c k srm first (made m y) s)
made-call c k srm first m y y₁ r h e s =
    ap (λ (x : CallResult). stepped x (with_request s y₁)) h
    ∙ ap (λ (z : List ℕ). stepped (requested_by m.next c k srm first m) (with_request s z)) e
    ∙ made_by m.next c k srm first m y s

pub next-call : (c : Client) (k : Kind) (srm first : Bool) (o : Outgoing) (s : Stores) (y₂ : List ℕ) (r : CallResult) (m : Made) (n : ℕ)
    → stepped r (with_request s y₂) ≡ after 0 (requests c k srm first m s) → m ≡ next_after 3 n o s.headers s.request
    → n ≡ capacity_of c → stepped r (with_request s y₂) ≡ after 0 (requests_next c k srm first o s)
unfolding requests_next
next-call c k srm first o s y₂ r m n h e i =
    h ∙ ap (λ (x : Made). after 0 (requests c k srm first x s)) (e ∙ ap (λ (j : ℕ). next_after 3 j o s.headers s.request) i)

-- bytes that are copied to the front of a store
pub store-front : (hs y : List ℕ) → length hs ≤ length y → paste y 0 hs (length hs) ≡ front hs y
store-front hs y h = front-paste [] y hs (omega arith)

module _ (c : Client) (k : Kind) (hs : List ℕ) (has : Bool) (p h b y : List ℕ) where
  abbrev lead : List ℕ
  lead = leading c.connection_id c.settings.srm_wanted

  pub first-call : (l h₁ y₁ y₃ : List ℕ) (count n : ℕ) (o : Outgoing) (r : CallResult) (m : Made) → l ≡ lead → count ≡ length lead
      → length hs ≤ length h → h₁ ≡ paste h 0 hs (length hs) → y₁ ≡ paste y 3 l (length l) → m ≡ next_after (3 + count) n o h₁ y₁
      → n ≡ capacity_of c → o ≡ request_of (length hs) has
      → stepped r (stores p h₁ b y₃) ≡ after 0 (requests c k false true m (stores p h₁ b y₁))
      → stepped r (stores p h₁ b y₃) ≡ after 0 (requests_first c k hs has (stores p h b y))
  unfolding requests_first
  first-call l h₁ y₁ y₃ count n o r m e f room i j q w u z =
      let a : h₁ ≡ front hs h = i ∙ store-front hs h room in
      let d : y₁ ≡ paste y 3 lead (length lead) = j ∙ ap (λ (x : List ℕ). paste y 3 x (length x)) e in
      z
      ∙ ap (λ (x : Made). after 0 (requests c k false true x (stores p h₁ b y₁)))
      (q ∙ ap (λ (x : ℕ). next_after (3 + x) n o h₁ y₁) f ∙ ap (λ (x : ℕ). next_after (3 + length lead) x o h₁ y₁) w
      ∙ ap (λ (x : Outgoing). next_after (3 + length lead) (capacity_of c) x h₁ y₁) u)
      ∙ ap (λ (x : List ℕ). after 0 (requests c k false true (next_after (3 + length lead) (capacity_of c) (request_of (length hs) has) x y₁)
      (stores p x b y₁))) a
      ∙ ap
      (λ (x : List ℕ). after 0
      (requests c k false true (next_after (3 + length lead) (capacity_of c) (request_of (length hs) has) (front hs h) x) (stores p (front hs h) b x))) d

-- ---- a packet was sent

pub sent-other : (o : Operation) → OneOf (0 ∷ 1 ∷ 2 ∷ 4 ∷ 5 ∷ []) (tag_of the_type o) → None ≡ turn_of o
sent-other Nothing k = refl
sent-other Connecting k = refl
sent-other Disconnecting k = refl
sent-other (Receiving srm last code) k = refl
sent-other Aborting k = refl
sent-other (Requesting kd o h srm first last) k = absurd (miss (0 ∷ 1 ∷ 2 ∷ 4 ∷ 5 ∷ []) 3 tt k)

-- what the client does at a turn
abbrev pub turned : Option Turn → Client → Stores → Done
turned (Some t) c s = requests_next c t.kind t.srm t.first t.outgoing s
turned None c s = wants c c.operation false s

pub turn-sent : (o : Operation) (c : Client) (s : Stores) → turned (turn_of o) c s ≡ sent_for o c s
turn-sent (Requesting k o h srm first last) c s = go (srm && not last)
  where
    go : (t : Bool) → turned (pick t (goes_next k o srm first) None) c s ≡ pick t (requests_next c k srm first o s)
        (wants c c.operation false s)
    go true = refl
    go false = refl
turn-sent Nothing c s = refl
turn-sent Connecting c s = refl
turn-sent Disconnecting c s = refl
turn-sent (Receiving srm last code) c s = refl
turn-sent Aborting c s = refl

pub goes-turn : (o : Operation) (c : Client) (s : Stores) (t u : Option Turn) (x : Stepped) → t ≡ turn_of o → t ≡ u → x ≡ after 0 (turned u c s)
    → x ≡ after 0 (sent_for o c s)
goes-turn o c s t u x e i h =
    h ∙ ap (λ (v : Option Turn). after 0 (turned v c s)) (sym i ∙ e) ∙ ap (λ (d : Done). after 0 d) (turn-sent o c s)

-- the headers of a request that goes on lie in the header store
pub turn-total : (p : Operation) (t : Option Turn) (x : Turn) → t ≡ turn_of p → t ≡ Some x → sound_operation p ≡ true
    → x.outgoing.total ≤ 65535
turn-total (Requesting k' o' h' srm' first' last') t x e i s = go (srm' && not last') (sym e ∙ i)
  where
    go : (b : Bool) → pick b (goes_next k' o' srm' first') None ≡ Some x → x.outgoing.total ≤ 65535
    go false q = let z : ◌≡◌ {A = ℕ} 0 1 = cc in absurd (omega arith)
    go true q =
        let w : record { kind = k'; outgoing = o'; srm = srm'; first = first' } ≡ x = cc in
        subst (λ (y : Turn). y.outgoing.total ≤ 65535) w (request-fits o' h' s).total
turn-total Nothing t x e i s = let q = sym e ∙ i in let z : ◌≡◌ {A = ℕ} 0 1 = cc in absurd (omega arith)
turn-total Connecting t x e i s = let q = sym e ∙ i in let z : ◌≡◌ {A = ℕ} 0 1 = cc in absurd (omega arith)
turn-total Disconnecting t x e i s = let q = sym e ∙ i in let z : ◌≡◌ {A = ℕ} 0 1 = cc in absurd (omega arith)
turn-total (Receiving srm' last' code) t x e i s = let q = sym e ∙ i in let z : ◌≡◌ {A = ℕ} 0 1 = cc in absurd (omega arith)
turn-total Aborting t x e i s = let q = sym e ∙ i in let z : ◌≡◌ {A = ℕ} 0 1 = cc in absurd (omega arith)
