-- Acting on the way that a packet goes is the model's step. Assumes nothing.
use mathlib.Core.Path.{◌≡◌, refl, sym, ap, ◌∙◌}
use mathlib.Core.Bool.{Bool, true, false, ◌&&◌, not, true≢false}
use mathlib.Core.List.{List, []}
use mathlib.Core.Option.{Option, none, some}
use Prim.Native.Nat.{ℕ}
use lib.ListN.{take}
use lib.Count.{ones}
use lib.Dec.{leb}
use Rattle.std.specs.Prelude.{Some, None}
use Rattle.base.specs.Pick.{pick}
use Rattle.base.specs.Place.{Place}
use Rattle.packet.specs.Codes.{sent_code}
use Rattle.packet.specs.FirstByte.{same_opcode}
use Rattle.packet.specs.Auth.{Response, response_of}
use Rattle.digest.specs.declared.md5.Octets16.{Octets16}
use Rattle.packet.specs.Header.{first}
use Rattle.packet.specs.Packet.{Request as Packet, request_of, connect_limit, packet_bytes}
use Rattle.packet.specs.declared.opcode.Opcode.{Opcode}
use Rattle.packet.specs.declared.opcode.Opcode.TheVariants as op
use Rattle.incoming.specs.Survey.{survey_of}
use Rattle.incoming.specs.declared.gather.Gathered.{Gathered}
use Rattle.incoming.specs.declared.gather.Keep.TheVariants as keep
use Rattle.connection.specs.Peer.{isGiven, limited, checked_peer, Challenge}
use Rattle.connection.specs.declared.peer.Peer.{Peer}
use Rattle.journal.specs.Checks.{most_wrong}
use Rattle.journal.specs.Journal.{response_in, headers_of as headersIn}
use Rattle.model.specs.Step.{Stores, Done, engine_with, wants, asks, ends, replies, replies_code}
use Rattle.model.specs.Request.{last_packet, last_headers, client_response, user_place}
use Rattle.model.specs.Connect.{verifies, connect_packet}
use Rattle.model.specs.Operation.{nothing_gathered, gathers, put_packet, get_packet, headers_packet}
use Rattle.model.specs.Dispatch.{Rejection, admits, rejects, rejection, known_in, drains, rejected, dispatches, admitted_as, dispatch, interrupts, trails, inside, busy, read_as, packet_target, arrived, packet_done}
use Rattle.table.specs.declared.targets.Target.{Target}
use Rattle.engine.specs.declared.dispatch.Heading.{Heading}
use Rattle.std.specs.Prelude.{Ok, Err}
use Rattle.engine.specs.Dispatch.{heading_of, ask_route, code_route, keep_route, trailed_route, is_trailing, Admission, admission_of, rejected_route, put_route, get_route, headers_route, dispatch_route, admitted_route, open_route, interrupts_route, inside_route, heading_route, route_as, packet_route, targeted, simple_plan, acts}
use Rattle.engine.specs.Operation.{keep_of, kind_plan, acts_gathered}
use Rattle.engine.specs.Connect.{answered_read, answered_as, verifies_plan, carries, stops_by, limited_plan, connect_plan}
use Rattle.server.specs.declared.Operation.{Operation}
use Rattle.server.specs.declared.Operation.TheVariants.{Nothing, Trailing, Putting, Getting, Sending, Gathering as GatheringOp, Connecting, Draining}
use Rattle.server.specs.declared.Await.{Await}
use Rattle.server.specs.declared.Await.TheVariants as await
use Rattle.server.specs.declared.End.{End}
use Rattle.server.specs.declared.End.TheVariants as end
use Rattle.server.specs.declared.Engine.{Engine}
use Rattle.server.specs.declared.HostRequest.{HostRequest}
use Rattle.server.specs.declared.HostRequest.TheVariants as request
use Rattle.engine.specs.declared.dispatch.Simple.TheVariants as brief
use Rattle.engine.specs.declared.operation.GatherFlags.{GatherFlags}
use Rattle.engine.specs.declared.operation.GatherKind.{GatherKind}
use Rattle.engine.specs.declared.operation.GatherKind.TheVariants as kind
use Rattle.engine.specs.declared.dispatch.Route.{Route}
use Rattle.engine.specs.declared.dispatch.Route.TheVariants.{Plain, Connect, Gather, Send}
use Rattle.engine.proofs.Plans.{Carries, pick-planned, wants-planned, asks-planned, ends-planned, code-planned, code_keeping_planned, put-planned, get_planned, headers-planned, pick-planned_as, fields_planned}

-- acting on the way, with the packet, is this step
pub record Acts (x : Route) (e : Engine) (q : List ℕ) (s : Stores) (d : Done) : Type 0 where
  pub is : acts x e q s ≡ d

pick-acts : (t : Bool) {x y : Route} {e : Engine} {q : List ℕ} {s : Stores} {d f : Done} → Acts x e q s d → Acts y e q s f
    → Acts (pick t x y) e q s (pick t d f)
pick-acts true a b = a
pick-acts false a b = b

skip_acts : (t : Bool) (x : Route) {y : Route} {e : Engine} {q : List ℕ} {s : Stores} {d : Done} → t ≡ false → Acts y e q s d
    → Acts (pick t x y) e q s d
skip_acts true x h a = absurd (true≢false h)
skip_acts false x h a = a

-- ---- steps of few bytes

module _ (e : Engine) (q : List ℕ) (s : Stores) where
  ask_acts : (a : Await) (r : HostRequest) → Acts (ask_route a r) e q s (asks e e.peer Nothing a r s)
  unfolding simple_plan
  ask_acts a r = record { is = (asks-planned e e.peer Nothing a r s).is }

  byte-acts : (a : Await) (b : ℕ) → Acts (Plain (brief.Code a b)) e q s (replies e e.peer Nothing a (packet_bytes b [] []) s)
  unfolding simple_plan
  byte-acts a b = record { is = (code-planned e e.peer a b s).is }

  drain_acts : (code : ℕ) → Acts (Plain (brief.Drain code)) e q s (wants e e.peer (Draining code) s)
  unfolding simple_plan
  drain_acts code = record { is = (wants-planned e e.peer (Draining code) s).is }

  end-acts : (x : End) → Acts (Plain (brief.End x)) e q s (ends e e.peer x s)
  unfolding simple_plan
  end-acts x = record { is = (ends-planned e e.peer x s).is }

  code-acts : (code : ℕ) → Acts (code_route code) e q s (replies_code e e.peer Nothing code s)
  code-acts code = byte-acts await.Taken (sent_code code)

  keep-acts : (o : Operation) → e.operation ≡ o → (code : ℕ) → Acts (keep_route code) e q s (replies_code e e.peer o code s)
  unfolding simple_plan
  keep-acts o i code =
      record { is = (code_keeping_planned e e.operation (sent_code code) s).is ∙ ap (λ (u : Operation). replies_code e e.peer u code s) i }

  interrupts-acts : Acts interrupts_route e q s (interrupts e s)
  interrupts-acts = byte-acts await.Last (sent_code 0x40)

-- ---- a Connect

module _ (e : Engine) (s : Stores) where
  read-planned : (p : Peer) (n : Octets16) (r : Option Response)
      → Carries (verifies_plan e p (Some n) (answered_read r (user_place e s))) s (verifies e p (Some n) r s)
  read-planned p n none = asks-planned e p Nothing await.Nonce request.Nonce s
  read-planned p n (some r) = asks-planned e p Nothing await.Password (request.Password (user_place e s)) s

  verifies-planned : (p : Peer) (c : Challenge) (v : Option (List ℕ))
      → Carries (verifies_plan e p c (answered_as v (user_place e s))) s (verifies e p c (response_in v) s)
  verifies-planned p None v = asks-planned e p Nothing await.Nonce request.Nonce s
  verifies-planned p (Some n) none = asks-planned e p Nothing await.Nonce request.Nonce s
  verifies-planned p (Some n) (some v) = read-planned p n (response_of v)

  -- a response is carried if its header is there
  carries-read : (r : Option Response) (u : Place) → carries (answered_read r u) ≡ true
  carries-read none u = refl
  carries-read (some r) u = refl

  carries-given : (v : Option (List ℕ)) (u : Place) → carries (answered_as v u) ≡ isGiven v
  carries-given none u = refl
  carries-given (some v) u = carries-read (response_of v) u

  connect_acts : Acts Connect e (last_packet e s) s (connect_packet e s)
  unfolding connect_plan limited_plan stops_by connect_packet client_response last_headers user_place
  connect_acts =
      let p = limited e.peer (connect_limit (last_packet e s)) in
      let v = first 0x4E (headersIn (request_of (last_packet e s))) in
      record {
        is =
            (pick-planned e.settings.authentication
            (pick-planned_as _ _ (ap (λ (t : Bool). leb most_wrong (ones p.window) && t) (carries-given v (user_place e s)))
            (fields_planned e (checked_peer p false) 0x53 s) (verifies-planned p p.challenge v))
            (asks-planned e p Nothing await.Connect (request.Connect e.length) s)
            ).is;
      }

-- ---- a packet that can be read

module _ (e : Engine) (r : Packet) (s : Stores) (open-id trailed : Bool) (known : request_of (last_packet e s) ≡ some r) where
  -- the packet's headers are the request's
  known-acts : (k : GatherKind) (g : Gathered) (f : GatherFlags)
      → acts (Gather f k g) e (last_packet e s) s ≡ acts_gathered e k f (gathers e (keep_of k) r.headers g s) s
  known-acts k g f = ap (λ (x : Option Packet). acts_gathered e k f (gathers e (keep_of k) (headersIn x) g s) s) known

  put-acts : (g : Gathered) (srm confirm : Bool)
      → Acts (put_route (heading_of r open-id trailed) g srm confirm) e (last_packet e s) s
      (put_packet e r (survey_of (some r.headers)) srm confirm g s)
  unfolding put_packet kind_plan
  put-acts g srm confirm =
      record { is = known-acts kind.Put g _ ∙ (put-planned e r (survey_of (some r.headers)) srm confirm (gathers e keep.Put r.headers g s) s).is }

  get_acts : (g : Gathered) (srm confirm : Bool)
      → Acts (get_route (heading_of r open-id trailed) g srm confirm) e (last_packet e s) s
      (get_packet e r (survey_of (some r.headers)) srm confirm g s)
  unfolding get_packet kind_plan
  get_acts g srm confirm =
      record { is = known-acts kind.Get g _ ∙ (get_planned e r (survey_of (some r.headers)) srm confirm (gathers e keep.Get r.headers g s) s).is }

  headers-acts : (o : Opcode) (g : Gathered) → Acts (headers_route (heading_of r open-id trailed) o g) e (last_packet e s) s (headers_packet e r o g s)
  unfolding headers_packet kind_plan
  headers-acts o g =
      let f : GatherFlags = record { is_final = r.final; asked = false; srm = false; confirm_srm = false } in
      record { is = known-acts (kind.Headers o) g f ∙ (headers-planned e r o (gathers e keep.All r.headers g s) s).is }

  rejected-acts : (code : ℕ) → Acts (rejected_route e (heading_of r open-id trailed) code) e (last_packet e s) s (rejected e r code s)
  rejected-acts code =
      pick-acts (e.peer.srm_enabled && (drains r.opcode && not r.final)) (drain_acts e (last_packet e s) s code)
      (code-acts e (last_packet e s) s code)

  dispatches-acts : (o : Opcode)
      → Acts (dispatch_route o e (heading_of r open-id trailed)) e (last_packet e s) s (dispatches o e r (survey_of (some r.headers)) s)
  dispatches-acts op.Connect = connect_acts e s
  dispatches-acts op.Abort = ask_acts e (last_packet e s) s await.Acknowledgement _
  dispatches-acts op.Disconnect = ask_acts e (last_packet e s) s await.Disconnect _
  dispatches-acts op.SetPath = ask_acts e (last_packet e s) s await.Reply _
  dispatches-acts op.Put = put-acts nothing_gathered _ _
  dispatches-acts op.Get = get_acts nothing_gathered _ _
  dispatches-acts op.Action = headers-acts op.Action nothing_gathered
  dispatches-acts op.Session = headers-acts op.Session nothing_gathered
  dispatches-acts (op.UserDefined x) = headers-acts (op.UserDefined x) nothing_gathered

  admitted-acts : (x : Rejection)
      → Acts (admitted_route (admission_of x) e (heading_of r open-id trailed)) e (last_packet e s) s (admitted_as x e r (survey_of (some r.headers)) s)
  admitted-acts admits = dispatches-acts r.opcode
  admitted-acts (rejects code) = rejected-acts code

  open-acts : Acts (open_route e (heading_of r open-id trailed)) e (last_packet e s) s (dispatch e r (survey_of (some r.headers)) open-id s)
  unfolding open_route dispatch
  open-acts =
      pick-acts (same_opcode r.opcode op.Connect) (connect_acts e s)
      (admitted-acts (rejection e r.opcode (survey_of (some r.headers)) open-id))

  -- what trails a Put, up to a final packet
  trailed-acts : e.operation ≡ Trailing → (t : Bool)
      → Acts (pick t (code_route 0x4D) (keep_route 0x4D)) e (last_packet e s) s (replies_code e e.peer (pick t Nothing Trailing) 0x4D s)
  trailed-acts i true = code-acts e (last_packet e s) s 0x4D
  trailed-acts i false = keep-acts e (last_packet e s) s Trailing i 0x4D

  -- what trails a Put goes before what is open
  inside-acts : (o : Operation) → e.operation ≡ o → trailed ≡ (is_trailing o && trails r)
      → Acts (pick trailed (trailed_route r.final) (inside_route o e (heading_of r open-id trailed))) e (last_packet e s) s
      (inside o e r (survey_of (some r.headers)) open-id s)
  inside-acts Nothing i j = skip_acts trailed (trailed_route r.final) j open-acts
  inside-acts Trailing i j = rw (sym j) (pick-acts trailed (trailed-acts i r.final) open-acts)
  inside-acts (Putting g srm) i j =
      skip_acts trailed (trailed_route r.final) j
      (pick-acts (same_opcode r.opcode op.Put) (put-acts g srm false) (interrupts-acts e (last_packet e s) s))
  inside-acts (Getting g srm confirm wait) i j =
      skip_acts trailed (trailed_route r.final) j
      (pick-acts (same_opcode r.opcode op.Get) (get_acts g srm confirm) (interrupts-acts e (last_packet e s) s))
  inside-acts (Sending o c srm wait) i j =
      skip_acts trailed (trailed_route r.final) j
      (pick-acts (same_opcode r.opcode op.Get)
      {x = Send o srm (survey_of (some r.headers)).wait}
      (record { is = refl })
      (interrupts-acts e (last_packet e s) s))
  inside-acts (GatheringOp o g) i j =
      skip_acts trailed (trailed_route r.final) j (pick-acts (same_opcode r.opcode o) (headers-acts o g) (interrupts-acts e (last_packet e s) s))
  inside-acts (Connecting c f n) i j = skip_acts trailed (trailed_route r.final) j (interrupts-acts e (last_packet e s) s)
  inside-acts (Draining code) i j =
      skip_acts trailed (trailed_route r.final) j
      (pick-acts r.final (code-acts e (last_packet e s) s code) (drain_acts e (last_packet e s) s code))

-- ---- any packet

module _ (e : Engine) (s : Stores) (t : List ℕ) where
  heading_acts : (r : Packet) → request_of (last_packet e s) ≡ some r
      → Acts (route_as (some r) e (last_packet e s) t) e (last_packet e s) s (read_as (some r) e (last_packet e s) s t)
  unfolding heading_route
  heading_acts r h =
      pick-acts (same_opcode r.opcode op.Abort) (ask_acts e (last_packet e s) s await.Acknowledgement _)
      (inside-acts e r s (known_in e t (survey_of (some r.headers))) (is_trailing e.operation && trails r) h e.operation refl refl)

  read-acts : (x : Option Packet) → request_of (last_packet e s) ≡ x
      → Acts (route_as x e (last_packet e s) t) e (last_packet e s) s (read_as x e (last_packet e s) s t)
  read-acts none h =
      pick-acts (busy e.operation) (end-acts e (last_packet e s) s end.Unreadable) (keep-acts e (last_packet e s) s e.operation refl _)
  read-acts (some r) h = heading_acts r h

-- ---- the way does not depend on the Target

module _ (e : Engine) (g : Target) (h : Heading) where
  dispatch-targeted : (o : Opcode) → dispatch_route o (targeted e g) h ≡ dispatch_route o e h
  unfolding engine_with
  dispatch-targeted op.Connect = refl
  dispatch-targeted op.Abort = refl
  dispatch-targeted op.Disconnect = refl
  dispatch-targeted op.SetPath = refl
  dispatch-targeted op.Put = refl
  dispatch-targeted op.Get = refl
  dispatch-targeted op.Action = refl
  dispatch-targeted op.Session = refl
  dispatch-targeted (op.UserDefined x) = refl

  admitted-targeted : (a : Admission) → admitted_route a (targeted e g) h ≡ admitted_route a e h
  unfolding engine_with
  admitted-targeted (Ok x) = dispatch-targeted h.opcode
  admitted-targeted (Err code) = refl

  open-targeted : open_route (targeted e g) h ≡ open_route e h
  unfolding open_route rejection engine_with
  open-targeted =
      ap (pick (same_opcode h.opcode op.Connect) Connect) (admitted-targeted (admission_of (rejection e h.opcode h.survey h.known)))

  inside-targeted : (o : Operation) → inside_route o (targeted e g) h ≡ inside_route o e h
  inside-targeted Nothing = open-targeted
  inside-targeted Trailing = open-targeted
  inside-targeted (Putting k srm) = refl
  inside-targeted (Getting k srm confirm wait) = refl
  inside-targeted (Sending o c srm wait) = refl
  inside-targeted (GatheringOp o k) = refl
  inside-targeted (Connecting c f n) = refl
  inside-targeted (Draining code) = refl

pub route_targeted : (e : Engine) (g : Target) (q t : List ℕ) → packet_route (targeted e g) q t ≡ packet_route e q t
unfolding packet_route heading_route engine_with
route_targeted e g q t = go (request_of q)
  where
    go : (x : Option Packet) → route_as x (targeted e g) q t ≡ route_as x e q t
    go none = refl
    go (some r) =
        let h = heading_of r (known_in e t (survey_of (some r.headers))) (is_trailing e.operation && trails r) in
        ap (λ (y : Route). pick (same_opcode r.opcode op.Abort) (ask_route await.Acknowledgement (request.Abort e.length))
        (pick h.trails (trailed_route r.final) y))
        (inside-targeted e g h e.operation)

-- ---- a whole packet

-- the Target of a packet, once the packet has arrived
arrived-target : (e : Engine) (n : ℕ) (t : List ℕ) (x : Option Packet) → packet_target x (arrived e n e.target) t ≡ packet_target x e t
unfolding packet_target engine_with
arrived-target e n t none = refl
arrived-target e n t (some r) = refl

pub packet-acts : (e : Engine) (n : ℕ) (s : Stores) (t : List ℕ)
    → acts (packet_route (arrived e n e.target) (take n s.packet) t)
    (targeted (arrived e n e.target) (packet_target (request_of (take n s.packet)) (arrived e n e.target) t)) (take n s.packet) s
    ≡ packet_done e n s t
unfolding packet_route packet_done last_packet engine_with
packet-acts e n s t =
    let q = take n s.packet in
    let g = packet_target (request_of q) e t in
    ap (λ (y : Target). acts (packet_route (arrived e n e.target) q t) (arrived e n y) q s) (arrived-target e n t (request_of q))
    ∙ ap (λ (y : Route). acts y (arrived e n g) q s) (sym (route_targeted (arrived e n e.target) g q t))
    ∙ acted
  where
    acted : acts (packet_route (arrived e n (packet_target (request_of (take n s.packet)) e t)) (take n s.packet) t)
        (arrived e n (packet_target (request_of (take n s.packet)) e t)) (take n s.packet) s
        ≡ packet_done e n s t
    acted = (read-acts (arrived e n (packet_target (request_of (take n s.packet)) e t)) s t (request_of (take n s.packet)) refl).is
