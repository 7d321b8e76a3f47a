-- The way of a packet by what reading it gives, and a gathered packet as a plan. Assumes nothing.
use mathlib.Core.Path.{◌≡◌, refl, sym, ap, ◌∙◌, subst}
use mathlib.Core.Bool.{Bool, true, false, ◌&&◌, not, true≢false, false≢true}
use mathlib.Core.List.{List, [], ◌∷◌}
use mathlib.Core.Option.{Option, none, some}
use Prim.Native.Nat.{ℕ}
use native.Mathlib.Omega.{arith}
use lib.ListN.{length, get_or, take}
use lib.Dec.{ltb}
use Rattle.base.specs.Pick.{pick}
use Rattle.std.specs.Prelude.{is_none}
use Rattle.base.specs.Place.{Place, Some, None}
use Rattle.packet.specs.FirstByte.{first_byte, same_opcode}
use Rattle.packet.specs.Header.{Header, read_headers, first, present, first_place}
use Rattle.packet.specs.Tags.{bytes_at}
use Rattle.packet.specs.Packet.{Request as Packet, request_with, request_of, prefix_of, backup, no_create_of}
use Rattle.packet.specs.PacketRead.{packet_head}
use Rattle.std.specs.Prelude.{Option as Maybe}
use Rattle.packet.specs.declared.opcode.Opcode.TheVariants as op
use Rattle.packet.proofs.OpcodeLaws.{same-equal}
use Rattle.packet.proofs.HeaderLaws.{first-agrees}
use denote.Enum.Declared.{tag_of}
use types.Run.{OneOf, miss}
use Rattle.server.specs.contracts.Operation.{the_type}
use Rattle.server.specs.declared.Operation.{Operation}
use Rattle.server.specs.declared.Operation.TheVariants.{Nothing, Trailing, Putting, Getting, Sending, Gathering as GatheringOp, Connecting, Draining}
use Rattle.packet.proofs.PacketLaws.{request_head, request-head, head-place}
use Rattle.packet.specs.declared.opcode.Opcode.{Opcode}
use Rattle.packet.specs.declared.packet.Head.{Head}
use Rattle.incoming.specs.Frame.{Frames, frames, framed}
use Rattle.incoming.specs.Survey.{survey_of}
use Rattle.incoming.specs.declared.frame.Frame.{Frame}
use Rattle.incoming.specs.declared.frame.Framed.{Framed}
use Rattle.incoming.specs.Gather.{Gathering, gathering, gather_all, headers_of}
use Rattle.incoming.specs.declared.gather.Gathered.{Gathered}
use Rattle.incoming.specs.declared.gather.Keep.{Keep}
use Rattle.journal.specs.Journal.{headers_of as headersIn}
use Rattle.table.specs.declared.targets.Target.{Target}
use Rattle.model.specs.Step.{Stores, stores, engine_with, Done, Stepped, stepped, ends, after, limit_of}
use Rattle.model.specs.Dispatch.{known_in, trails, packet_target, arrived, packet_done, unknown_byte}
use Rattle.model.specs.Calls.{framed_as, with_packet, offers, bytes_offered_step}
use Rattle.model.specs.Operation.{gathers}
use Rattle.model.specs.Guard.{sound_operation}
use Rattle.engine.specs.Step.{planned, ends_plan, Written, carried, took_by}
use Rattle.engine.specs.Dispatch.{is_trailing, trailed_by, unreadable_route, heading_route, route_as, packet_route, routed, target_under, targeted, acts, with_taken, open_route, inside_route}
use Rattle.engine.specs.Operation.{keep_of, from_of, kind_plan, acts_gathered}
use Rattle.server.specs.declared.CallKind.TheVariants as kind
use Rattle.server.specs.declared.End.TheVariants as end
use Rattle.server.specs.declared.Engine.{Engine}
use Rattle.server.specs.declared.CallResult.{CallResult}
use Rattle.engine.specs.declared.step.Plan.{Plan}
use Rattle.engine.specs.declared.operation.GatherFlags.{GatherFlags}
use Rattle.engine.specs.declared.operation.GatherKind.{GatherKind}
use Rattle.engine.specs.declared.dispatch.Heading.{Heading}
use Rattle.engine.specs.declared.dispatch.Route.{Route}
use Rattle.engine.specs.declared.dispatch.Routed.{Routed}
use Rattle.engine.proofs.Guards.{GoesLent}
use Rattle.engine.proofs.Ready.{Ready, ready}
use Rattle.engine.proofs.Routes.{route_targeted, packet-acts}

-- nothing that trails is refused in any other operation
pub not-trailing : (o : Operation) → OneOf (0 ∷ 2 ∷ 3 ∷ 4 ∷ 5 ∷ 6 ∷ 7 ∷ []) (tag_of the_type o) → is_trailing o ≡ false
not-trailing Nothing k = refl
not-trailing (Putting g srm) k = refl
not-trailing (Getting g srm confirm wait) k = refl
not-trailing (Sending o c srm wait) k = refl
not-trailing (GatheringOp o g) k = refl
not-trailing (Connecting c f n) k = refl
not-trailing (Draining code) k = refl
not-trailing Trailing k = absurd (miss (0 ∷ 2 ∷ 3 ∷ 4 ∷ 5 ∷ 6 ∷ 7 ∷ []) 1 tt k)

-- with no operation open, a packet that does not trail is judged as new, whether what trails is refused or not
pub open_way : (o : Operation) (e : Engine) (h : Heading) → OneOf (0 ∷ 1 ∷ []) (tag_of the_type o) → inside_route o e h ≡ open_route e h
open_way Nothing e h k = refl
open_way Trailing e h k = refl
open_way (Putting g srm) e h k = absurd (miss (0 ∷ 1 ∷ []) 2 tt k)
open_way (Getting g srm confirm wait) e h k = absurd (miss (0 ∷ 1 ∷ []) 3 tt k)
open_way (Sending o c srm wait) e h k = absurd (miss (0 ∷ 1 ∷ []) 4 tt k)
open_way (GatheringOp o g) e h k = absurd (miss (0 ∷ 1 ∷ []) 5 tt k)
open_way (Connecting c f n) e h k = absurd (miss (0 ∷ 1 ∷ []) 6 tt k)
open_way (Draining code) e h k = absurd (miss (0 ∷ 1 ∷ []) 7 tt k)

-- the way and the Target of a packet
abbrev routed_as : Option Packet → Engine → List ℕ → List ℕ → Routed
routed_as x e q t = routed (route_as x e q t) (packet_target x e t)

abbrev pub packet_routed : Engine → List ℕ → List ℕ → Routed
packet_routed e q t = routed (packet_route e q t) (packet_target (request_of q) e t)

abbrev unreadable_routed : Engine → List ℕ → Routed
unreadable_routed e q = routed (unreadable_route e.operation (unknown_byte (first_byte (get_or q 0 0)))) e.target

-- a packet that is no request goes the way of the unreadable, and leaves the Target
no_request : (e : Engine) (q t : List ℕ) → request_of q ≡ none → packet_routed e q t ≡ unreadable_routed e q
unfolding packet_route packet_target
no_request e q t h = ap (λ (x : Option Packet). routed_as x e q t) h

pub headless_way : (e : Engine) (q t : List ℕ) → packet_head q ≡ None → packet_routed e q t ≡ unreadable_routed e q
headless_way e q t h = no_request e q t (request-head q ∙ ap (λ (x : Maybe Head). request_head x q) h)

-- by what stands before the headers, and whether they can be read
module _ (e : Engine) (q t : List ℕ) (d : Head) (known : packet_head q ≡ Some d) where
  abbrev o : Opcode
  o = d.opcode

  abbrev final : Bool
  final = d.is_final

  abbrev from : ℕ
  from = d.headers

  request_is : request_of q ≡ request_with o final q (read_headers q from)
  request_is = request-head q ∙ ap (λ (x : Maybe Head). request_head x q) known

  from-head : from ≡ prefix_of o
  unfolding packet_head
  from-head = head-place (first_byte (get_or q 0 0)) q d known

  -- a Name is found in the packet if the request has one
  trailed_way : (p : Operation) (hs : List Header) → read_headers q from ≡ some hs
      → trailed_by p o q ≡ (is_trailing p && trails (record { opcode = o; final = final; bytes = q; headers = hs }))
  unfolding trails
  trailed_way p hs k = ap (λ (u : Bool). is_trailing p && u) (go (same_opcode o op.Put) refl)
    where
      missing : (x : Place) → is_none x ≡ not (present (bytes_at q x))
      missing None = refl
      missing (Some p) = refl

      go : (u : Bool) → same_opcode o op.Put ≡ u → (u && is_none (first_place 0x01 q 3)) ≡ (u && not (present (first 0x01 hs)))
      go false i = refl
      go true i =
          let a : from ≡ 3 = from-head ∙ ap prefix_of (same-equal o op.Put i) in
          let b : read_headers q 3 ≡ some hs = ap (read_headers q) (sym a) ∙ k in
          missing (first_place 0x01 q 3) ∙ ap (λ (v : Option (List ℕ)). not (present v)) (first-agrees 0x01 q 3 hs b)

  abbrev Heading_way : Type 0
  Heading_way =
      packet_routed e q t
      ≡ routed
      (heading_route e (record {
        survey = survey_of (read_headers q from);
        opcode = o;
        backup = backup q;
        no_create = no_create_of q;
        is_final = final;
        known = known_in e t (survey_of (read_headers q from));
        trails = trailed_by e.operation o q;
      }))
      (target_under e t o (survey_of (read_headers q from)))

  pub unreadable_way : (survey_of (read_headers q from)).readable ≡ false
      → packet_routed e q t ≡ unreadable_routed e q
  unfolding survey_of
  unreadable_way h = go (read_headers q from) refl h
    where
      go : (hs : Option (List Header)) → read_headers q from ≡ hs → (survey_of hs).readable ≡ false
          → packet_routed e q t ≡ unreadable_routed e q
      go none k w = no_request e q t (request_is ∙ ap (request_with o final q) k)
      go (some hs) k w = absurd (true≢false w)

  pub heading_way : (survey_of (read_headers q from)).readable ≡ true → Heading_way
  unfolding survey_of packet_route packet_target
  heading_way h = go (read_headers q from) refl h
    where
      go : (hs : Option (List Header)) → read_headers q from ≡ hs → (survey_of hs).readable ≡ true → Heading_way
      go none k w = absurd (false≢true w)
      go (some hs) k w =
          ap (λ (x : Option Packet). routed_as x e q t) (request_is ∙ ap (request_with o final q) k)
          ∙ rw (k, trailed_way e.operation hs k) refl

-- what `gather` gives, in the words of the model
pub gathered_way : (e : Engine) (k : GatherKind) (q : List ℕ) (hs : List Header) (g : Gathered) (s : Stores) (from limit : ℕ) (keep : Keep)
    (x : Gathering)
    → x ≡ gather_all keep limit (headers_of (read_headers q from)) (gathering g s.headers s.body) → from ≡ from_of k → keep ≡ keep_of k
    → limit ≡ limit_of e → read_headers q (from_of k) ≡ some hs → x ≡ gathers e (keep_of k) hs g s
gathered_way e k q hs g s from limit keep x h a b c r = h ∙ rw (a, b, c, r)

pub gathered_planned : (e : Engine) (k : GatherKind) (f : GatherFlags) (got : Gathered) (h b : List ℕ) (s : Stores) (x : Gathering) (p : Plan)
    → gathering got h b ≡ x → p ≡ kind_plan e k got f
    → planned p (stores s.packet h b s.reply) ≡ acts_gathered e k f x s
gathered_planned e k f got h b s x p w z = rw (← w, z)

-- by the way that the code was told, under the Target `g`
pub by_route : (e : Engine) (g : Target) (q t : List ℕ) (s : Stores) (x : Route) (d : Done) → packet_route e q t ≡ x → d ≡ acts x (targeted e g) q s
    → d ≡ acts (packet_route e q t) (targeted e g) q s
by_route e g q t s x d h k = k ∙ ap (λ (y : Route). acts y (targeted e g) q s) (sym h)

pub ready_at : (e : Engine) (g : Target) (q t : List ℕ) (x : Route) → packet_route e q t ≡ x → sound_operation (limit_of e) e.operation ≡ true
    → Ready x (targeted e g) q (headersIn (request_of q))
unfolding engine_with
ready_at e g q t x h s =
    subst (λ (y : Route). Ready y (targeted e g) q (headersIn (request_of q))) (route_targeted e g q t ∙ h) (ready (targeted e g) q t s)

-- a whole packet, once its plan is carried out
pub done-call : (e : Engine) (n : ℕ) (s : Stores) (t : List ℕ) (at : Engine) (p : Plan) (h b y : List ℕ) (w : Written) → at ≡ arrived e n e.target
    → planned p (stores s.packet h b y)
    ≡ acts (packet_route at (take n s.packet) t) (targeted at (packet_target (request_of (take n s.packet)) at t)) (take n s.packet) s
    → w ≡ carried p y
    → stepped w.took (stores s.packet h b w.reply) ≡ after 0 (packet_done e n s t)
done-call e n s t at p h b y w l k c =
    ap (λ (x : Written). stepped x.took (stores s.packet h b x.reply)) c
    ∙ ap (λ (d : Done). after 0 d)
    (k
    ∙ ap (λ (x : Engine). acts (packet_route x (take n s.packet) t) (targeted x (packet_target (request_of (take n s.packet)) x t))
    (take n s.packet) s) l
    ∙ packet-acts e n s t)

-- ---- bytes

-- a call that goes on, by where the frame stands
pub framed-call : (e : Engine) (i : List ℕ) (s : Stores) (t : List ℕ) (f : Framed) (q : List ℕ) (x : Frame) (d : Stepped) → GoesLent kind.FromPeer e s t
    → frames f q ≡ framed s.packet e.begun 0 i → f.frame ≡ x → d ≡ framed_as x e f.begun f.taken (with_packet s q) t
    → d ≡ bytes_offered_step e i s t
unfolding bytes_offered_step
framed-call e i s t f q x d g h k w =
    w ∙ ap (λ (y : Frame). framed_as y e f.begun f.taken (with_packet s q) t) (sym k) ∙ ap (λ (y : Frames). offers e y s t) h
    ∙ sym (simp (g.enough, g.fitted))

-- so many bytes were taken
pub taken-after : (r w : CallResult) (t : ℕ) (s : Stores) (d : Done) → w ≡ with_taken r t → stepped r s ≡ after 0 d → stepped w s ≡ after t d
taken-after r w t s d h k = ap (λ (x : CallResult). stepped x s) h ∙ ap (λ (x : Stepped). stepped (with_taken x.took t) x.stores) k

-- the end after a length under 3 has no reply to write
pub short-took : (e : Engine) (r : CallResult) (p : Plan) (s : Stores) → r ≡ took_by p → p ≡ ends_plan e e.peer end.LengthTooSmall → stepped r s ≡ after 0 (ends e e.peer end.LengthTooSmall s)
unfolding ends_plan
short-took e r p s h k = ap (λ (x : CallResult). stepped x s) (h ∙ ap (λ (x : Plan). took_by x) k)
