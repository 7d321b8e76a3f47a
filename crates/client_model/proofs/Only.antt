-- The packets of a request hold no header of Single Response Mode (SRM) but those that lead its first packet, if its own headers have none. So
-- the packets of a client that does not ask for SRM have none at all, and those of one that does ask in the first packet alone. Assumes nothing.
use mathlib.Core.Path.{◌≡◌, refl, sym, ap, subst, ◌∙◌}
use mathlib.Core.Bool.{Bool, true, false, ◌||◌, true≢false}
use mathlib.Core.Option.{Option, none, some}
use mathlib.Core.List.{List, [], ◌∷◌, ◌++◌, append-nil, append_assoc}
use Prim.Native.Nat.{ℕ, ◌+◌, ◌-◌}
use lib.ListN.{length, drop}
use lib.Dec.{ltb, eqb}
use Rattle.std.specs.Prelude.{Some, None}
use Rattle.base.specs.Pick.{pick}
use Rattle.packet.specs.HeaderIds as header_id
use Rattle.packet.specs.Header.{Header, encoding_of, tagged, allowed, bytes_of, all_bytes, first}
use Rattle.packet.proofs.HeaderWrites.{Shaped, AllShaped, read_shaped}
use Rattle.journal.specs.Record.{is_body, is_srm}
use Rattle.journal.specs.Journal.{is_enable}
use Rattle.outgoing.specs.Packets.{packet, chunks, chunk_packets, body_packets, cannot_go, before, packets_from}
use Rattle.outgoing.specs.Queue.{must_lead, insert_early}
use Rattle.connection.specs.Peer.{ConnectionId}
use Rattle.client_model.specs.Leading.{leading_headers, leading}
use Rattle.client_model.specs.Guard.{any_of, is_reserved}
use Rattle.client_model.proofs.Conveyed.{Holding, bytes-append, bytes_one, shaped_append}
use Rattle.client_model.proofs.Leads.{lead_shaped}
use Rattle.client_model.proofs.Requests.{Given}

-- none of the headers is one of SRM
abbrev pub NoSrm : List Header → Type 0
NoSrm [] = Unit {0}
NoSrm (h ∷ hs) = (is_srm h.id ≡ false) × NoSrm hs

abbrev pub AllNoSrm : List (List Header) → Type 0
AllNoSrm [] = Unit {0}
AllNoSrm (x ∷ xs) = NoSrm x × AllNoSrm xs

-- the first list begins with what leads, and nothing else is one of SRM
abbrev pub Leading : List Header → List (List Header) → Type 0
Leading lead [] = Unit {0}
Leading lead (x ∷ xs) = ((y : List Header) × (x ≡ lead ++ y) × NoSrm y) × AllNoSrm xs

-- the packets hold such headers
pub record Led (lead : List Header) (ps : List (List ℕ)) : Type 0 where
  pub headers : List (List Header)
  pub holds : Holding ps headers
  pub only : Leading lead headers

no_srm-append : (a b : List Header) → NoSrm a → NoSrm b → NoSrm (a ++ b)
no_srm-append [] b p q = q
no_srm-append (h ∷ a) b p q = (p.0, no_srm-append a b p.1 q)

more_bytes : (a : List Header) (h : Header) → all_bytes a ++ bytes_of h ≡ all_bytes (a ++ (h ∷ []))
more_bytes a h = ap (λ (l : List ℕ). all_bytes a ++ l) (sym (bytes_one h)) ∙ sym (bytes-append a (h ∷ []))

led-none : (lead : List Header) → Led lead []
led-none lead = record { headers = []; holds = tt; only = tt }

-- if what leads is none of SRM, nothing is
pub all_plain : (lead : List Header) → NoSrm lead → (xs : List (List Header)) → Leading lead xs → AllNoSrm xs
all_plain lead n [] w = tt
all_plain lead n (x ∷ xs) w = (subst NoSrm (sym w.0.1) (no_srm-append lead w.0.0 n w.0.2), w.1)

-- a packet before others that nothing of SRM leads
led-more : (lead y : List Header) (p : List ℕ) (ps : List (List ℕ)) → drop 3 p ≡ all_bytes (lead ++ y) → AllShaped (lead ++ y) → NoSrm y
    → (front : List Header) → NoSrm front → Led front ps → Led lead (p ∷ ps)
led-more lead y p ps e w n front m o =
    record { headers = (lead ++ y) ∷ o.headers; holds = (e, w, o.holds); only = ((y, refl, n), all_plain front m o.headers o.only) }

-- the packet has nothing behind what leads
led-lead : (lead : List Header) (p : List ℕ) (ps : List (List ℕ)) → drop 3 p ≡ all_bytes lead → AllShaped lead → (front : List Header) → NoSrm front
    → Led front ps
    → Led lead (p ∷ ps)
led-lead lead p ps e w front m o =
    let q : lead ≡ lead ++ [] = sym (append-nil lead) in
    led-more lead [] p ps (e ∙ ap all_bytes q) (subst AllShaped q w) tt front m o

-- ---- a body behind some headers

abbrev chunk : ℕ → List ℕ → Header
chunk id v = record { id = id; value = v }

body-fine : (v : List ℕ) → Shaped (chunk header_id.body v) × (is_srm header_id.body ≡ false)
unfolding encoding_of allowed tagged is_srm
body-fine v = (record { sized = tt; is_allowed = refl }, refl)

end-fine : (v : List ℕ) → Shaped (chunk header_id.end_of_body v) × (is_srm header_id.end_of_body ≡ false)
unfolding encoding_of allowed tagged is_srm
end-fine v = (record { sized = tt; is_allowed = refl }, refl)

led-chunks : (lead : List Header) → AllShaped lead → (content : List ℕ) → content ≡ all_bytes lead → (cs : List (List ℕ))
    → Led lead (chunk_packets content cs)
unfolding chunk_packets all_bytes
led-chunks lead w content e [] = led-none lead
led-chunks lead w content e (c ∷ []) =
    let h = chunk header_id.end_of_body c in
    led-more lead (h ∷ []) (packet true (content ++ bytes_of h)) [] (ap (λ (l : List ℕ). l ++ bytes_of h) e ∙ more_bytes lead h)
    (shaped_append lead (h ∷ []) w ((end-fine c).0, tt)) ((end-fine c).1, tt) [] tt (led-none [])
led-chunks lead w content e ([] ∷ (d ∷ ds)) =
    led-lead lead (packet false (content ++ [])) (chunk_packets [] (d ∷ ds)) (append-nil content ∙ e) w [] tt (led-chunks [] tt [] refl (d ∷ ds))
led-chunks lead w content e ((b ∷ bs) ∷ (d ∷ ds)) =
    let h = chunk header_id.body (b ∷ bs) in
    led-more lead (h ∷ []) (packet false (content ++ bytes_of h)) (chunk_packets [] (d ∷ ds)) (ap (λ (l : List ℕ). l ++ bytes_of h) e
    ∙ more_bytes lead h)
    (shaped_append lead (h ∷ []) w ((body-fine (b ∷ bs)).0, tt)) ((body-fine (b ∷ bs)).1, tt) [] tt (led-chunks [] tt [] refl (d ∷ ds))

led-body : (capacity : ℕ) (lead : List Header) → AllShaped lead → (content : List ℕ) → content ≡ all_bytes lead → (body : Option (List ℕ))
    → Led lead (body_packets capacity content body)
unfolding body_packets all_bytes
led-body capacity lead w content e none = led-lead lead (packet true content) [] e w [] tt (led-none [])
led-body capacity lead w content e (some body) = go (ltb capacity (length content + 3))
  where
    go : (t : Bool) → Led lead (pick t (packet false content ∷ chunk_packets [] (chunks (capacity - 3) (capacity - 3) body))
        (chunk_packets content (chunks (capacity - (length content + 3)) (capacity - 3) body)))
    go true =
        led-lead lead (packet false content) (chunk_packets [] (chunks (capacity - 3) (capacity - 3) body)) e w [] tt
        (led-chunks [] tt [] refl (chunks (capacity - 3) (capacity - 3) body))
    go false = led-chunks lead w content e (chunks (capacity - (length content + 3)) (capacity - 3) body)

-- ---- headers

-- one header less leads
fewer_lead : (lead : List Header) (h : Header) (ps : List (List ℕ)) → is_srm h.id ≡ false → Led (lead ++ (h ∷ [])) ps → Led lead ps
fewer_lead lead h ps n o = record { headers = o.headers; holds = o.holds; only = go o.headers o.only }
  where
    go : (xs : List (List Header)) → Leading (lead ++ (h ∷ [])) xs → Leading lead xs
    go [] w = tt
    go (x ∷ xs) w = ((h ∷ w.0.0, w.0.1 ∙ append_assoc lead (h ∷ []) w.0.0, (n, w.0.2)), w.1)

pub led-from : (capacity : ℕ) (body : Option (List ℕ)) (hs : List Header) → AllShaped hs → NoSrm hs → (lead : List Header) → AllShaped lead
    → (content : List ℕ) → content ≡ all_bytes lead → Led lead (packets_from capacity content hs body).sent
unfolding packets_from
led-from capacity body [] v m lead w content e = led-body capacity lead w content e body
led-from capacity body (h ∷ hs) v m lead w content e =
    go (ltb capacity (length (bytes_of h))) (ltb capacity (length content + length (bytes_of h)))
    (led-from capacity body hs v.1 m.1 (h ∷ []) (v.0, tt) (bytes_of h) (sym (bytes_one h)))
    (led-from capacity body hs v.1 m.1 (lead ++ (h ∷ [])) (shaped_append lead (h ∷ []) w (v.0, tt))
    (content ++ bytes_of h) (ap (λ (l : List ℕ). l ++ bytes_of h) e ∙ more_bytes lead h))
  where
    go : (t u : Bool) → Led (h ∷ []) (packets_from capacity (bytes_of h) hs body).sent
        → Led (lead ++ (h ∷ [])) (packets_from capacity (content ++ bytes_of h) hs body).sent
        → Led lead (pick t cannot_go (pick u (before (packet false content) (packets_from capacity (bytes_of h) hs body))
        (packets_from capacity (content ++ bytes_of h) hs body))).sent
    go true u a b = led-none lead
    go false true a b = led-lead lead (packet false content) (packets_from capacity (bytes_of h) hs body).sent e w (h ∷ []) (m.0, tt) a
    go false false a b = fewer_lead lead h (packets_from capacity (content ++ bytes_of h) hs body).sent m.0 b

-- ---- a Put

or_none_lem : (a b : Bool) → (a || b) ≡ false → (a ≡ false) × (b ≡ false)
or_none_lem false b e = (refl, e)
or_none_lem true b e = absurd (true≢false e)

user-plain : (hs : List Header) → any_of is_reserved hs ≡ false → NoSrm hs
unfolding any_of
user-plain [] e = tt
user-plain (h ∷ hs) e =
    let w = or_none_lem (is_reserved h) (any_of is_reserved hs) e in
    let v = or_none_lem (eqb h.id header_id.connection_id) (is_srm h.id || is_body h.id) w.0 in
    ((or_none_lem (is_srm h.id) (is_body h.id) v.1).0, user-plain hs w.1)

pub put-led : (capacity : ℕ) (id : ConnectionId) (srm : Bool) (hs : List ℕ) (body : Option (List ℕ)) (g : Given capacity hs)
    → Led (leading_headers id srm) (packets_from capacity (leading id srm) g.list body).sent
unfolding leading
put-led capacity id srm hs body g =
    led-from capacity body g.list (read_shaped hs 0 g.list g.reads) (user-plain g.list g.own) (leading_headers id srm)
    (lead_shaped id srm)
    (all_bytes (leading_headers id srm)) refl

-- the packets hold no header of SRM
pub record Only (ps : List (List ℕ)) : Type 0 where
  pub headers : List (List Header)
  pub holds : Holding ps headers
  pub only : AllNoSrm headers

led-only : (lead : List Header) (ps : List (List ℕ)) → NoSrm lead → Led lead ps → Only ps
led-only lead ps n w = record { headers = w.headers; holds = w.holds; only = all_plain lead n w.headers w.only }

pub only-from : (capacity : ℕ) (body : Option (List ℕ)) (hs : List Header) → AllShaped hs → NoSrm hs → (lead : List Header) → AllShaped lead
    → NoSrm lead
    → (content : List ℕ) → content ≡ all_bytes lead → Only (packets_from capacity content hs body).sent
only-from capacity body hs v m lead w n content e = led-only lead (packets_from capacity content hs body).sent n
    (led-from capacity body hs v m lead w content e)

lead_plain : (id : ConnectionId) → NoSrm (leading_headers id false)
unfolding leading_headers insert_early must_lead is_srm
lead_plain None = tt
lead_plain (Some i) = (refl, tt)

-- of a client that does not ask for it
pub put_only : (capacity : ℕ) (id : ConnectionId) (hs : List ℕ) (body : Option (List ℕ)) (g : Given capacity hs)
    → Only (packets_from capacity (leading id false) g.list body).sent
put_only capacity id hs body g =
    led-only (leading_headers id false) (packets_from capacity (leading id false) g.list body).sent (lead_plain id)
    (put-led capacity id false hs body g)

-- so none is found
srm-first : (i : ℕ) (hs : List Header) → ((h : Header) → is_srm h.id ≡ false → eqb h.id i ≡ false) → NoSrm hs → first i hs ≡ none
unfolding first
srm-first i [] t n = refl
srm-first i (h ∷ hs) t n = rw (t h n.0) (srm-first i hs t n.1)

not-mode : (h : Header) → is_srm h.id ≡ false → eqb h.id header_id.single_response_mode ≡ false
unfolding is_srm
not-mode h n = (or_none_lem (eqb h.id header_id.single_response_mode) (eqb h.id header_id.single_response_mode_parameters) n).0

not-parameter : (h : Header) → is_srm h.id ≡ false → eqb h.id header_id.single_response_mode_parameters ≡ false
unfolding is_srm
not-parameter h n = (or_none_lem (eqb h.id header_id.single_response_mode) (eqb h.id header_id.single_response_mode_parameters) n).1

pub none_first : (hs : List Header) → NoSrm hs → first header_id.single_response_mode hs ≡ none
none_first hs n = srm-first header_id.single_response_mode hs not-mode n

pub no_parameter : (hs : List Header) → NoSrm hs → first header_id.single_response_mode_parameters hs ≡ none
no_parameter hs n = srm-first header_id.single_response_mode_parameters hs not-parameter n

-- behind what leads, SRM is asked for exactly if it is wanted, and no parameter is there
pub lead-asks : (id : ConnectionId) (srm : Bool) (y : List Header) → NoSrm y
    → (is_enable (first header_id.single_response_mode (leading_headers id srm ++ y)) ≡ srm)
    × (first header_id.single_response_mode_parameters (leading_headers id srm ++ y) ≡ none)
unfolding leading_headers insert_early must_lead first
lead-asks None false y n = (ap is_enable (none_first y n), no_parameter y n)
lead-asks None true y n = (refl, no_parameter y n)
lead-asks (Some i) false y n = (ap is_enable (none_first y n), no_parameter y n)
lead-asks (Some i) true y n = (refl, no_parameter y n)
