-- The last packet read again: its headers from where they start, and what the password is checked against. Assumes nothing.
use mathlib.Core.Path.{◌≡◌, refl, sym, ap, ◌∙◌}
use mathlib.Core.List.{List, []}
use mathlib.Core.Bool.{Bool, true, false}
use mathlib.Core.Option.{Option, none, some}
use Prim.Native.Nat.{ℕ, ◌+◌, ◌-◌, ◌≤◌, ◌<◌}
use native.Mathlib.Omega.{arith}
use lib.ListN.{length, get_or, take, drop}
use lib.Dec.{ltb, eqb}
use lib.Seq.{get_or-take, get_or-drop}
use Rattle.std.specs.Prelude.{Some, None}
use Rattle.base.specs.Pick.{pick}
use Rattle.base.specs.Place.{Place, span}
use Rattle.packet.specs.FirstByte.{first_byte}
use Rattle.packet.specs.Header.{Header, read_headers, encoding_of, first, first_place, part}
use Rattle.packet.specs.HeaderList.{readable_from}
use Rattle.packet.specs.Packet.{request_of, request_by, request_with, prefix_of}
use Rattle.packet.specs.PacketRead.{known_head, head_by}
use Rattle.packet.specs.Tags.{bytes_at}
use Rattle.packet.specs.Auth.{Response, response_of}
use Rattle.packet.specs.AuthRead.{read_response}
use Rattle.packet.specs.declared.opcode.Opcode.{Opcode}
use Rattle.packet.specs.declared.opcode.FirstByte.{FirstByte}
use Rattle.packet.specs.declared.packet.Head.{Head}
use Rattle.std.specs.Prelude.{Option as Maybe}
use Rattle.packet.proofs.HeaderBytes.{Octets}
use Rattle.packet.proofs.HeaderLaws.{first_found}
use Rattle.packet.proofs.TextForms.{octets-take}
use Rattle.journal.specs.Journal.{list_of, headers_of as headersIn, response_in, is_enable}
use Rattle.incoming.specs.Survey.{id_of, present, survey_of}
use Rattle.incoming.specs.declared.survey.Survey.{Survey}
use Rattle.connection.specs.Peer.{id_in, Challenge}
use Rattle.connection.specs.Pieces.{headers_from, first_in, check_of}
use Rattle.connection.proofs.Challenges.{first_in_bytes}
use Rattle.connection.proofs.Requests.{Finds, finds, at_end}
use Rattle.connection.specs.declared.request.ConnectRequest.{ConnectRequest}
use Rattle.connection.proofs.ByNumbers.{check_by, check_by_lem}
use Rattle.model.specs.Step.{Stores, stepped, after}
use Rattle.model.specs.Guard.{guarded}
use Rattle.model.specs.Connect.{password_answered, password_answer, checks, demands_user}
use Rattle.model.specs.Request.{client_response, last_headers, last_packet}
use Rattle.engine.specs.Step.{asks_plan, took_by}
use Rattle.engine.specs.Connect.{password_plan}
use Rattle.server.specs.declared.CallKind.TheVariants as kind
use Rattle.server.specs.declared.Engine.{Engine}
use Rattle.server.specs.declared.CallResult.{CallResult}
use Rattle.engine.specs.declared.step.Plan.{Plan}
use Rattle.engine.proofs.Guards.{Goes}
use Rattle.engine.specs.Request.{from_by, last_from, last_connect}

-- where the headers start, by what stands before them
pub from-head : (b : Maybe FirstByte) (q : List ℕ) (h : Head) → head_by b q ≡ Some h → h.headers ≡ from_by b (length q)
from-head None q h e = let z : ◌≡◌ {A = ℕ} 0 1 = cc in absurd (omega arith)
from-head (Some b) q h e = go (ltb (length q) (prefix_of b.opcode)) e
  where
    go : (t : Bool) → pick t None (known_head b.opcode b.is_final (prefix_of b.opcode)) ≡ Some h → h.headers ≡ pick t (length q) (prefix_of b.opcode)
    go true e = let z : ◌≡◌ {A = ℕ} 0 1 = cc in absurd (omega arith)
    go false e =
        let is : ◌≡◌ {A = Head} (record { opcode = b.opcode; is_final = b.is_final; headers = prefix_of b.opcode }) h = cc in
        ap (λ (x : Head). x.headers) (sym is)

pub from_headless : (b : Maybe FirstByte) (q : List ℕ) → head_by b q ≡ None → length q ≡ from_by b (length q)
from_headless None q e = refl
from_headless (Some b) q e = go (ltb (length q) (prefix_of b.opcode)) e
  where
    go : (t : Bool) → pick t None (known_head b.opcode b.is_final (prefix_of b.opcode)) ≡ None → length q ≡ pick t (length q) (prefix_of b.opcode)
    go true e = refl
    go false e = let z : ◌≡◌ {A = ℕ} 0 1 = cc in absurd (omega arith)

none_at_end : (q : List ℕ) → headers_from q (length q) ≡ []
none_at_end q = ap (λ (r : Option (List Header)). list_of r) (at_end q)

-- its headers, none if they cannot be read
pub last-headers : (q : List ℕ) → headers_from q (last_from q) ≡ headersIn (request_of q)
unfolding last_from request_of
last-headers q = go (first_byte (get_or q 0 0))
  where
    with_read : (o : Opcode) (f : Bool) (r : Option (List Header)) → list_of r ≡ headersIn (request_with o f q r)
    with_read o f none = refl
    with_read o f (some hs) = refl

    by : (o : Opcode) (f t : Bool)
        → headers_from q (pick t (length q) (prefix_of o)) ≡ headersIn (pick t none (request_with o f q (read_headers q (prefix_of o))))
    by o f true = none_at_end q
    by o f false = with_read o f (read_headers q (prefix_of o))

    go : (b : Maybe FirstByte) → headers_from q (from_by b (length q)) ≡ headersIn (request_by b q)
    go None = none_at_end q
    go (Some b) = by b.opcode b.is_final (ltb (length q) (prefix_of b.opcode))

-- a Connect's headers, as they were read in one walk
pub last_finds : (q : List ℕ) (c : ConnectRequest) → c ≡ last_connect q → Finds q (last_from q) c
unfolding last_connect
last_finds q c e = finds q (last_from q) c e

-- the place of the first header of an id
pub first_bounds : (id : ℕ) (q : List ℕ) (from a b : ℕ) → first_in id q from ≡ span a b → (a ≤ b) × (b ≤ length q)
unfolding first_in
first_bounds id q from a b = go (readable_from q from)
  where
    go : (t : Bool) → pick t (first_place id q from) None ≡ span a b → (a ≤ b) × (b ≤ length q)
    go true e = let w = first_found id q from a b e in (w.stands.past, w.stands.fits)
    go false e = let z : ◌≡◌ {A = ℕ} 0 1 = cc in absurd (omega arith)

pub first-value : (id : ℕ) (q : List ℕ) (f : Place) → first_in id q (last_from q) ≡ f → bytes_at q f ≡ first id (headersIn (request_of q))
first-value id q f e =
    sym (ap (bytes_at q) e) ∙ first_in_bytes id q (last_from q) ∙ ap (λ (hs : List Header). first id hs) (last-headers q)

-- ---- what else is asked of headers

-- the first ConnectionID, by the survey
pub id_given_lem : (r : Option (List Header)) (v : Survey) → v ≡ survey_of r → v.has_id ≡ true → Some v.id ≡ id_in (first 0xCB (list_of r))
unfolding survey_of
id_given_lem none v e h = absurd (let z : ◌≡◌ {A = ℕ} 0 1 = cc in omega arith)
id_given_lem (some hs) v e h = rw e (go (first 0xCB hs) (rw e at h))
  where
    go : (o : Option (List ℕ)) → present o ≡ true → Some (id_of o) ≡ id_in o
    go none k = absurd (let z : ◌≡◌ {A = ℕ} 0 1 = cc in omega arith)
    go (some x) k = refl

pub id_missing : (r : Option (List Header)) (v : Survey) → v ≡ survey_of r → v.has_id ≡ false → None ≡ id_in (first 0xCB (list_of r))
unfolding survey_of first
id_missing none v e h = refl
id_missing (some hs) v e h = go (first 0xCB hs) (rw e at h)
  where
    go : (o : Option (List ℕ)) → present o ≡ false → None ≡ id_in o
    go none k = refl
    go (some x) k = absurd (let z : ◌≡◌ {A = ℕ} 0 1 = cc in omega arith)

-- the first SingleResponseMode of one byte
pub mode-inside : (q : List ℕ) (a b : ℕ) → first_in 0x97 q (last_from q) ≡ span a b → (a < b) × (b ≤ length q)
unfolding first_in encoding_of
mode-inside q a b = go (readable_from q (last_from q))
  where
    go : (t : Bool) → pick t (first_place 0x97 q (last_from q)) None ≡ span a b → (a < b) × (b ≤ length q)
    go true e =
        let w = (first_found 0x97 q (last_from q) a b e).stands in
        (omega (arith, w.start, w.stop), w.fits)
    go false e = let z : ◌≡◌ {A = ℕ} 0 1 = cc in absurd (omega arith)

pub enabling_at : (q : List ℕ) (a b : ℕ) → first_in 0x97 q (last_from q) ≡ span a b
    → eqb (get_or q a 0) 1 ≡ (survey_of (some (headersIn (request_of q)))).enable
unfolding survey_of
enabling_at q a b e =
    let w = mode-inside q a b e in
    let z : a + 0 ≡ a = omega arith in
    let v : get_or (part q a b) 0 0 ≡ get_or q a 0 =
    get_or-take (b - a) (drop a q) 0 0 (omega (arith, w.0)) ∙ get_or-drop a q 0 0 ∙ ap (λ (m : ℕ). get_or q m 0) z in
    ap (λ (x : ℕ). eqb x 1) (sym v)
    ∙ ap (λ (v : Option (List ℕ)). is_enable v) (first-value 0x97 q (span a b) e)

pub enabling_missing : (q : List ℕ) → first_in 0x97 q (last_from q) ≡ None → false ≡ (survey_of (some (headersIn (request_of q)))).enable
unfolding survey_of
enabling_missing q e = ap (λ (v : Option (List ℕ)). is_enable v) (first-value 0x97 q None e)

-- ---- the password's check

same_check : (ch : Challenge) (r : Option Response) (d : Bool) (p : Option (List ℕ)) → check_by ch r d p ≡ checks ch r d p
same_check None r d p = refl
same_check (Some n) none d p = refl
same_check (Some n) (some r) d none = refl
same_check (Some n) (some r) d (some p) = refl

octets-drop : (n : ℕ) (l : List ℕ) → Octets l → Octets (drop n l)
octets-drop n l o k = rw (get_or-drop n l k 0) (o (n + k))

pub right-missing : (ch : Challenge) (q : List ℕ) (d : Bool) (p : Option (List ℕ)) → first_in 0x4E q (last_from q) ≡ None
    → false ≡ checks ch (response_in (first 0x4E (headersIn (request_of q)))) d p
right-missing ch q d p e = simp (sym (first-value 0x4E q None e)) (go ch)
  where
    go : (ch : Challenge) → false ≡ checks ch none d p
    go None = refl
    go (Some n) = refl

pub right_at : (ch : Challenge) (q : List ℕ) (d : Bool) (p : Option (List ℕ)) (a b : ℕ) → Octets q → first_in 0x4E q (last_from q) ≡ span a b
    → check_of ch (read_response (part q a b)) d p ≡ checks ch (response_in (first 0x4E (headersIn (request_of q)))) d p
right_at ch q d p a b o e =
    check_by_lem ch (part q a b) d p (octets-take (drop a q) (b - a) (octets-drop a q o)) ∙ same_check ch (response_of (part q a b)) d p
    ∙ ap (λ (v : Option (List ℕ)). checks ch (response_in v) d p) (first-value 0x4E q (span a b) e)

pub password-call : (e : Engine) (s : Stores) (r : CallResult) (x : Plan) (t d : Bool) (p : Option (List ℕ)) → Goes kind.PasswordGiven e s
    → r ≡ took_by x → x ≡ password_plan e t
    → d ≡ demands_user e.settings
    → t ≡ checks e.peer.challenge (response_in (first 0x4E (headersIn (request_of (take e.length s.packet))))) d p
    → stepped r s ≡ guarded kind.PasswordGiven e s (after 0 (password_answer e p s))
unfolding password_plan password_answer password_answered asks_plan client_response last_headers last_packet
password-call e s r x t d p g h k i c =
    ap (λ (y : CallResult). stepped y s) (h ∙ ap (λ (y : Plan). took_by y) k)
    ∙ by t (c ∙ ap (λ (y : Bool). checks e.peer.challenge (response_in (first 0x4E (headersIn (request_of (take e.length s.packet))))) y p) i)
    ∙ sym (g.whole (after 0 (password_answer e p s)))
  where
    by : (t : Bool) → t ≡ checks e.peer.challenge (response_in (first 0x4E (headersIn (request_of (take e.length s.packet)))))
        (demands_user e.settings) p
        → stepped (took_by (password_plan e t)) s ≡ after 0 (password_answer e p s)
    by true c = simp (sym c)
    by false c = simp (sym c)
