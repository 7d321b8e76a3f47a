-- The first packet of a Put: the headers that lead, those of the user that fit behind them, and at most a part of the body. So the server admits
-- it by what the client asked for alone. Assumes nothing.
use mathlib.Core.Path.{◌≡◌, refl, sym, ap, subst, ◌∙◌}
use mathlib.Core.List.{List, [], ◌∷◌, ◌++◌, append-nil, append_assoc}
use mathlib.Core.Bool.{Bool, true, false, ◌&&◌, not, true≢false}
use mathlib.Core.Option.{Option, none, some}
use Prim.Native.Nat.{ℕ, ◌+◌, ◌-◌, ◌≤◌}
use native.Mathlib.Omega.{arith}
use lib.ListN.{length, drop, length-append}
use lib.Dec.{ltb, eqb}
use borrow.Author.Tests.{eqb-true, ltb-true, ltb-false, lt-ltb, le-ltb}
use Rattle.base.specs.Pick.{pick}
use Rattle.packet.specs.HeaderIds as header_id
use Rattle.packet.specs.FirstByte.{same_opcode}
use Rattle.packet.specs.Header.{Header, encoding_of, tagged, allowed, bytes_of, all_bytes, first}
use Rattle.packet.specs.Packet.{Request as Packet}
use Rattle.packet.specs.declared.opcode.Opcode.{Opcode}
use Rattle.packet.specs.declared.opcode.Opcode.TheVariants as op
use Rattle.packet.proofs.HeaderWrites.{Shaped, AllShaped, read_shaped}
use Rattle.journal.specs.Record.{is_body}
use Rattle.journal.specs.Ids.{member}
use Rattle.incoming.specs.Survey.{id_of, present, survey_of}
use Rattle.outgoing.specs.Packets.{packet, header, chunks, chunk_packets, body_packets, cannot_go, before, packets_from}
use Rattle.connection.specs.Peer.{ids_of}
use Rattle.connection.specs.declared.peer.Peer.{Peer}
use Rattle.server.specs.declared.Settings.{Settings as ServerSettings}
use Rattle.server.specs.declared.Operation.{Operation}
use Rattle.server.specs.declared.Engine.{Engine}
use Rattle.model.specs.Dispatch.{admits, rejects, rejection, known_in, trails}
use Rattle.model.proofs.ServerPut.{is_admits, is_trailing, put_passes}
use Rattle.client_model.specs.Leading.{leading_headers, leading}
use Rattle.client_model.proofs.Conveyed.{reads-back, bytes-append, bytes_one, shaped_append}
use Rattle.client_model.proofs.Leads.{lead_shaped}
use Rattle.client_model.proofs.Sending.{lead-small}
use Rattle.client_model.proofs.Putting.{Job}
use Rattle.link.specs.Claims.{fitting}
use Rattle.link.proofs.Joint.{First}

-- ---- what it holds

-- all are body headers
abbrev AllBody : List Header → Type 0
AllBody [] = Unit {0}
AllBody (h ∷ hs) = (is_body h.id ≡ true) × AllBody hs

-- the packet holds these headers and perhaps a part of the body
record Shape (lead hs : List Header) (p : List ℕ) : Type 0 where
  more : List Header
  holds : drop 3 p ≡ all_bytes (lead ++ (hs ++ more))
  shaped : AllShaped (lead ++ (hs ++ more))
  bodies : AllBody more

abbrev chunk : ℕ → List ℕ → Header
chunk id v = record { id = id; value = v }

body-fine : (v : List ℕ) → Shaped (chunk header_id.body v) × (is_body header_id.body ≡ true)
unfolding encoding_of allowed tagged is_body
body-fine v = (record { sized = tt; is_allowed = refl }, refl)

end-fine : (v : List ℕ) → Shaped (chunk header_id.end_of_body v) × (is_body header_id.end_of_body ≡ true)
unfolding encoding_of allowed tagged is_body
end-fine v = (record { sized = tt; is_allowed = refl }, refl)

more_bytes : (a : List Header) (h : Header) → all_bytes a ++ bytes_of h ≡ all_bytes (a ++ (h ∷ []))
more_bytes a h = ap (λ (l : List ℕ). all_bytes a ++ l) (sym (bytes_one h)) ∙ sym (bytes-append a (h ∷ []))

-- nothing behind what leads, or one body header
bare-shape : (lead : List Header) → AllShaped lead → (p content : List ℕ) → content ≡ all_bytes lead → drop 3 p ≡ content → Shape lead [] p
bare-shape lead w p content e i =
    let q : lead ≡ lead ++ [] = sym (append-nil lead) in
    record { more = []; holds = i ∙ e ∙ ap all_bytes q; shaped = subst AllShaped q w; bodies = tt }

body-shape : (lead : List Header) → AllShaped lead → (h : Header) → Shaped h → is_body h.id ≡ true → (p content : List ℕ) → content ≡ all_bytes lead
    → drop 3 p ≡ content ++ bytes_of h → Shape lead [] p
body-shape lead w h s b p content e i =
    record {
      more = h ∷ [];
      holds = i ∙ ap (λ (l : List ℕ). l ++ bytes_of h) e
          ∙ more_bytes lead h;
      shaped = shaped_append lead (h ∷ []) w (s, tt);
      bodies = (b, tt);
    }

module _ (lead : List Header) (w : AllShaped lead) (content : List ℕ) (e : content ≡ all_bytes lead) (p : List ℕ) (rest : List (List ℕ)) where
  chunk-first : (cs : List (List ℕ)) → chunk_packets content cs ≡ p ∷ rest → Shape lead [] p
  unfolding chunk_packets
  chunk-first [] i = let z : ◌≡◌ {A = ℕ} 0 1 = cc in absurd (omega arith)
  chunk-first (c ∷ []) i =
      let q : packet true (content ++ header header_id.end_of_body c) ≡ p = cc in
      body-shape lead w (chunk header_id.end_of_body c) (end-fine c).0 (end-fine c).1 p content e (ap (drop 3) (sym q))
  chunk-first ([] ∷ (d ∷ ds)) i =
      let q : packet false (content ++ []) ≡ p = cc in bare-shape lead w p content e (ap (drop 3) (sym q) ∙ append-nil content)
  chunk-first ((b ∷ bs) ∷ (d ∷ ds)) i =
      let q : packet false (content ++ header header_id.body (b ∷ bs)) ≡ p = cc in
      body-shape lead w (chunk header_id.body (b ∷ bs)) (body-fine (b ∷ bs)).0 (body-fine (b ∷ bs)).1 p content e (ap (drop 3) (sym q))

  body-first : (capacity : ℕ) (body : Option (List ℕ)) → body_packets capacity content body ≡ p ∷ rest → Shape lead [] p
  unfolding body_packets
  body-first capacity none i = let q : packet true content ≡ p = cc in bare-shape lead w p content e (ap (drop 3) (sym q))
  body-first capacity (some body) i = go (ltb capacity (length content + 3)) i
    where
      go : (t : Bool) → pick t (packet false content ∷ chunk_packets [] (chunks (capacity - 3) (capacity - 3) body))
          (chunk_packets content (chunks (capacity - (length content + 3)) (capacity - 3) body)) ≡ p ∷ rest → Shape lead [] p
      go true i = let q : packet false content ≡ p = cc in bare-shape lead w p content e (ap (drop 3) (sym q))
      go false i = chunk-first (chunks (capacity - (length content + 3)) (capacity - 3) body) i

-- one header more leads
shape-more : (lead hs : List Header) (h : Header) (p : List ℕ) → Shape (lead ++ (h ∷ [])) hs p → Shape lead (h ∷ hs) p
shape-more lead hs h p w =
    let q = append_assoc lead (h ∷ []) (hs ++ w.more) in
    record { more = w.more; holds = w.holds ∙ ap all_bytes q; shaped = subst AllShaped q w.shaped; bodies = w.bodies }

first-from : (capacity : ℕ) (body : Option (List ℕ)) (hs : List Header) → AllShaped hs → (lead : List Header) → AllShaped lead → (content : List ℕ)
    → content ≡ all_bytes lead → length content ≤ capacity → (p : List ℕ) (rest : List (List ℕ))
    → (packets_from capacity content hs body).sent ≡ p ∷ rest
    → Shape lead (fitting (capacity - length content) hs) p
unfolding packets_from fitting
first-from capacity body [] v lead w content e n p rest i = body-first lead w content e p rest capacity body i
first-from capacity body (h ∷ hs) v lead w content e n p rest i =
    go (ltb capacity (length (bytes_of h))) (ltb capacity (length content + length (bytes_of h))) refl i
    (λ k. first-from capacity body hs v.1 (lead ++ (h ∷ [])) (shaped_append lead (h ∷ []) w (v.0, tt)) (content ++ bytes_of h)
    (ap (λ (l : List ℕ). l ++ bytes_of h) e ∙ more_bytes lead h) k p rest)
  where
    go : (t u : Bool) → ltb capacity (length content + length (bytes_of h)) ≡ u
        → (pick t cannot_go (pick u (before (packet false content) (packets_from capacity (bytes_of h) hs body))
        (packets_from capacity (content ++ bytes_of h) hs body))).sent ≡ p ∷ rest
        → (length (content ++ bytes_of h) ≤ capacity → (packets_from capacity (content ++ bytes_of h) hs body).sent ≡ p ∷ rest
        → Shape (lead ++ (h ∷ [])) (fitting (capacity - length (content ++ bytes_of h)) hs) p)
        → Shape lead (pick (ltb (capacity - length content) (length (bytes_of h))) []
        (h ∷ fitting (capacity - length content - length (bytes_of h)) hs)) p
    go true u k i ih = let z : ◌≡◌ {A = ℕ} 0 1 = cc in absurd (omega arith)
    go false true k i ih =
        let q : packet false content ≡ p = cc in
        let s : ltb (capacity - length content) (length (bytes_of h)) ≡ true = lt-ltb (capacity - length content) (length (bytes_of h))
        (omega (arith, n, ltb-true capacity (length content + length (bytes_of h)) k)) in
        subst (λ (t : Bool). Shape lead (pick t [] (h ∷ fitting (capacity - length content - length (bytes_of h)) hs)) p) (sym s)
        (bare-shape lead w p content e (ap (drop 3) (sym q)))
    go false false k i ih =
        let a = length-append content (bytes_of h) in
        let m = ltb-false capacity (length content + length (bytes_of h)) k in
        let s : ltb (capacity - length content) (length (bytes_of h)) ≡ false = le-ltb (capacity - length content) (length (bytes_of h))
        (omega (arith, n, m)) in
        let r : capacity - length (content ++ bytes_of h) ≡ capacity - length content - length (bytes_of h) = omega (arith, a, m) in
        subst (λ (t : Bool). Shape lead (pick t [] (h ∷ fitting (capacity - length content - length (bytes_of h)) hs)) p) (sym s)
        (shape-more lead (fitting (capacity - length content - length (bytes_of h)) hs) h p
        (subst (λ (x : ℕ). Shape (lead ++ (h ∷ [])) (fitting x hs) p) r (ih (omega (arith, a, m)) i)))

-- ---- what admission sees of it

-- a body header is none that is looked for
not_body : (i : ℕ) (h : Header) → is_body i ≡ false → is_body h.id ≡ true → (t : Bool) → eqb h.id i ≡ t → t ≡ false
not_body i h n b true e = absurd (true≢false (sym b ∙ ap is_body (eqb-true h.id i e) ∙ n))
not_body i h n b false e = refl

first-behind : (i : ℕ) (a more : List Header) → is_body i ≡ false → AllBody more → first i (a ++ more) ≡ first i a
unfolding first
first-behind i [] [] n w = refl
first-behind i [] (h ∷ more) n w = rw (not_body i h n w.0 (eqb h.id i) refl) (first-behind i [] more n w.1)
first-behind i (h ∷ a) more n w = ap (λ (x : Option (List ℕ)). pick (eqb h.id i) (some h.value) x) (first-behind i a more n w)

-- by the settings, the peer, the open ids and the first ConnectionID and Name
passes_as : (o : Operation) (e e' : Engine) (t t' : List ℕ) (r r' : Packet) → e.settings ≡ e'.settings → e.peer ≡ e'.peer → t ≡ t'
    → r.opcode ≡ r'.opcode
    → first header_id.connection_id r.headers ≡ first header_id.connection_id r'.headers
    → first header_id.name r.headers ≡ first header_id.name r'.headers
    → put_passes o e r (survey_of (some r.headers)) (known_in e t (survey_of (some r.headers)))
    ≡ put_passes o e' r' (survey_of (some r'.headers)) (known_in e' t' (survey_of (some r'.headers)))
unfolding rejection trails survey_of
passes_as o e e' t t' r r' a b c d f k = λ i. looks (a i) (b i) (c i) (d i) (f i) (k i)
  where
    looks : ServerSettings → Peer → List ℕ → Opcode → Option (List ℕ) → Option (List ℕ) → Bool
    looks st p t oc id name =
        is_admits (pick (st.authentication && (not p.authenticated && not (same_opcode oc op.Disconnect))) (rejects 0x41)
        (pick (present id && not (present id && member (id_of id) (ids_of p t))) (rejects 0x53) admits))
        && not (is_trailing o && (same_opcode oc op.Put && not (present name)))

-- the first packet passes exactly if one of the headers that lead and of those that fit does
pub first_passes : (j : Job) (o : Operation) (e e' : Engine) (t t' : List ℕ) (r r' : Packet) → e.settings ≡ e'.settings → e.peer ≡ e'.peer
    → t ≡ t' → r.opcode ≡ op.Put
    → r'.opcode ≡ op.Put → r'.headers ≡ leading_headers j.id j.wants ++ fitting (j.capacity - length (leading j.id j.wants))
    j.headers.list → First j r.headers
    → put_passes o e r (survey_of (some r.headers)) (known_in e t (survey_of (some r.headers)))
    ≡ put_passes o e' r' (survey_of (some r'.headers)) (known_in e' t' (survey_of (some r'.headers)))
unfolding leading is_body
first_passes j o e e' t t' r r' a b c d d' x f =
    let lead = leading_headers j.id j.wants in
    let hs = fitting (j.capacity - length (all_bytes lead)) j.headers.list in
    let w = first-from j.capacity f.body j.headers.list (read_shaped j.hs 0 j.headers.list j.headers.reads) lead
    (lead_shaped j.id j.wants) (all_bytes lead) refl
    (omega (arith, j.low, lead-small j.id j.wants)) f.packet f.rest f.is in
    let q : some r.headers ≡ some (lead ++ (hs ++ w.more)) =
    sym (reads-back f.packet f.packet r.headers f.holds f.shaped refl)
    ∙ reads-back f.packet f.packet (lead ++ (hs ++ w.more)) w.holds w.shaped refl in
    let y : r.headers ≡ lead ++ (hs ++ w.more) = cc in
    let z : r.headers ≡ (lead ++ hs) ++ w.more = y ∙ sym (append_assoc lead hs w.more) in
    passes_as o e e' t t' r r' a b c (d ∙ sym d')
    (ap (first header_id.connection_id) z ∙ first-behind header_id.connection_id (lead ++ hs) w.more refl w.bodies
    ∙ ap (first header_id.connection_id) (sym x))
    (ap (first header_id.name) z ∙ first-behind header_id.name (lead ++ hs) w.more refl w.bodies ∙ ap (first header_id.name) (sym x))
