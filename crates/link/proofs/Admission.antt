-- What the journal admits is what the server lets pass: if the journal stands to the server as in the records theorem, the first packet of a Put
-- or of a Get passes at the server exactly if the journal says so. Assumes nothing.
use mathlib.Core.Path.{◌≡◌, refl, sym, ap, ap₂, subst, ◌∙◌}
use mathlib.Core.List.{List}
use mathlib.Core.Bool.{Bool, true, false, ◌&&◌, not}
use mathlib.Core.Option.{some}
use Prim.Native.Nat.{ℕ}
use lib.ListN.{take}
use Rattle.std.specs.Prelude.{Some, None}
use Rattle.base.specs.Pick.{pick}
use Rattle.packet.specs.Packet.{Request as Packet}
use Rattle.packet.specs.FirstByte.{same_opcode}
use Rattle.packet.specs.HeaderIds as header_id
use Rattle.packet.specs.Header.{first}
use Rattle.journal.specs.Journal.{Journal, Opened, unauthorized, not_open, admitted, trails as trails_in}
use Rattle.journal.specs.Ids.{member}
use Rattle.connection.specs.Peer.{ids_of, ConnectionId}
use Rattle.outgoing.specs.Queue.{must_lead, insert_early}
use Rattle.journal.specs.PutForm.{is_trailing as trailing}
use Rattle.incoming.specs.Survey.{survey_of}
use Rattle.server.specs.declared.Operation.{Operation}
use Rattle.server.specs.declared.Operation.TheVariants.{Nothing, Trailing, Putting, Getting, Sending, Gathering as GatheringOp, Connecting, Draining}
use Rattle.server.specs.declared.Await.{Await}
use Rattle.server.specs.declared.Await.TheVariants as waits
use Rattle.server.specs.declared.Engine.{Engine}
use Rattle.model.specs.Step.{Stores}
use Rattle.model.specs.Dispatch.{admits, rejects, known_in, trails}
use Rattle.model.specs.Runs.{State}
use Rattle.model.proofs.Coupling.{OpenedAt, Held, CoupledAt, Coupled}
use Rattle.model.proofs.Dispatch.{rejection_is, admitted_is}
use Rattle.model.proofs.ServerPut.{is_admits, is_trailing, put_passes}
use Rattle.client_model.specs.Leading.{leading_headers}
use Rattle.client_model.specs.declared.Client.{Client}
use Rattle.client_model.proofs.Getting.{has_id, id_sent}
use Rattle.link.specs.Claims.{is_admitted}
use Rattle.link.specs.GetMore.{first_get}
use Rattle.link.proofs.GetJoint.{is_admitted as isAdmittedGet}

-- what trails a Put is refused by both or by none
trailing_is : (limit : ℕ) (o : Operation) (h b : List ℕ) (x : Opened) → OpenedAt limit o h b x → trailing x ≡ is_trailing o
trailing_is limit Nothing h b x w = ap trailing w
trailing_is limit Trailing h b x w = ap trailing w
trailing_is limit (Putting g srm) h b x w = ap trailing w.is
trailing_is limit (Getting g srm confirm wait) h b x w = ap trailing w.is
trailing_is limit (Sending o c srm wait) h b x w = ap trailing w
trailing_is limit (GatheringOp o g) h b x w = ap trailing w.0.is
trailing_is limit (Connecting c f n) h b x w = absurd w
trailing_is limit (Draining c) h b x w = ap trailing w

-- both look at the Name
trails_is : (r : Packet) → trails_in r ≡ trails r
unfolding trails_in trails
trails_is r = refl

-- a code, or none
admits_is : (t u : Bool) → (not t && not u) ≡ is_admits (pick t (rejects 0x41) (pick u (rejects 0x53) admits))
admits_is true u = refl
admits_is false true = refl
admits_is false false = refl

held-admits : (ts : List ℕ) (e : Engine) (s : Stores) (q : List ℕ) (j : Journal) → Held ts e.settings e.peer e.operation s q j → (r : Packet)
    → is_admitted j r ≡ put_passes e.operation e r (survey_of (some r.headers)) (known_in e ts (survey_of (some r.headers)))
held-admits ts e s q j w r =
    let f = w.fixed in
    ap₂ (λ (a b : Bool). a && not b)
    (admitted_is ts e s j f r ∙ admits_is (unauthorized j.settings j.standing r.opcode)
    (not_open j.standing.ids (first header_id.connection_id r.headers)) ∙ ap is_admits (sym (rejection_is ts e s j f r)))
    (ap₂ (λ (a b : Bool). a && b) (trailing_is e.settings.max_object_size e.operation s.headers s.body j.opened w.opened)
    (trails_is r))

-- between two packets
pub admission : (s : State) (j : Journal) → s.engine.awaits ≡ waits.Bytes → Coupled s.tables s.engine s.stores j → (r : Packet)
    → is_admitted j r
    ≡ put_passes s.engine.operation s.engine r (survey_of (some r.headers)) (known_in s.engine s.tables (survey_of (some r.headers)))
admission s j a w r =
    let e = s.engine in
    let v = subst (λ (x : Await). CoupledAt s.tables x e.operation e.settings e.peer e.begun e.length s.stores j) a w in
    held-admits s.tables e s.stores (take e.begun s.stores.packet) j v r

-- ---- a Get

-- the ConnectionID leads
first_id : (id : ConnectionId) (srm : Bool) (ids : List ℕ)
    → not_open ids (first header_id.connection_id (leading_headers id srm)) ≡ (has_id id && not (member (id_sent id) ids))
unfolding leading_headers insert_early must_lead first
first_id None true ids = refl
first_id None false ids = refl
first_id (Some i) true ids = refl
first_id (Some i) false ids = refl

and_true : (t u : Bool) → (t && (u && true)) ≡ (t && u)
and_true true true = refl
and_true true false = refl
and_true false u = refl

pub get_admission : (s : State) (j : Journal) → s.engine.awaits ≡ waits.Bytes → Coupled s.tables s.engine s.stores j → (c : Client)
    → admitted j.settings j.standing (first_get c)
    ≡ isAdmittedGet (record { settings = s.engine.settings; peer = s.engine.peer; tables = s.tables }) c.connection_id
unfolding admitted unauthorized same_opcode
get_admission s j a w c =
    let e = s.engine in
    let v = subst (λ (x : Await). CoupledAt s.tables x e.operation e.settings e.peer e.begun e.length s.stores j) a w in
    let f = v.fixed in
    rw (f.settings, f.standing)
    (ap₂ (λ (t u : Bool). not t && not u) (and_true e.settings.authentication (not e.peer.authenticated))
    (first_id c.connection_id c.settings.srm_wanted (ids_of e.peer s.tables)))
