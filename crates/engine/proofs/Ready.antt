-- What is known of a packet on its way: its headers can be read from where that way starts, and what was gathered before is in bounds.
-- Assumes nothing.
use mathlib.Core.Path.{◌≡◌, refl, subst}
use mathlib.Core.Bool.{Bool, true, false}
use mathlib.Core.List.{List}
use mathlib.Core.Option.{Option, none, some}
use Prim.Native.Nat.{ℕ}
use native.Mathlib.Omega.{arith}
use lib.ListN.{length, get_or}
use lib.Dec.{ltb}
use borrow.Author.Tests.{le-leb}
use Rattle.base.specs.Pick.{pick}
use Rattle.packet.specs.FirstByte.{first_byte, same_opcode}
use Rattle.packet.specs.Header.{Header, read_headers}
use Rattle.packet.specs.Packet.{Request as Packet, request_of, request_by, request_with, prefix_of}
use Rattle.packet.specs.declared.opcode.FirstByte.{FirstByte}
use Rattle.std.specs.Prelude.{Option as Maybe, Some, None}
use Rattle.packet.specs.declared.opcode.Opcode.{Opcode}
use Rattle.packet.specs.declared.opcode.Opcode.TheVariants as op
use Rattle.incoming.specs.Survey.{survey_of}
use Rattle.outgoing.specs.declared.object.Chunk.{Chunk}
use Rattle.journal.specs.Journal.{headers_of as headersIn}
use Rattle.model.specs.Step.{limit_of}
use Rattle.model.specs.Operation.{nothing_gathered}
use Rattle.model.specs.Guard.{sound_gathered, sound_outgoing, sound_operation}
use Rattle.model.specs.Dispatch.{rejection, busy}
use Rattle.engine.specs.Dispatch.{Admission, heading_of, admission_of, drained_by, rejected_route, dispatch_route, admitted_route, open_route, inside_route, heading_route, route_as, packet_route}
use Rattle.engine.specs.Operation.{from_of}
use Rattle.server.specs.declared.Operation.{Operation}
use Rattle.server.specs.declared.Operation.TheVariants.{Nothing, Trailing, Putting, Getting, Sending, Gathering as GatheringOp, Connecting, Draining}
use Rattle.server.specs.declared.Engine.{Engine}
use Rattle.engine.specs.declared.dispatch.Route.{Route}
use Rattle.engine.specs.declared.dispatch.Route.TheVariants.{Plain, Connect, Gather, Send}
use Rattle.std.specs.Prelude.{Ok, Err}
use Rattle.packet.proofs.OpcodeLaws.{same-equal}

-- the headers of a request are those after its fields, and its bytes are the packet
pub record Parts (q : List ℕ) (r : Packet) : Type 0 where
  pub bytes : r.bytes ≡ q
  pub headers : read_headers q (prefix_of r.opcode) ≡ some r.headers

pub parts : (q : List ℕ) (r : Packet) → request_of q ≡ some r → Parts q r
unfolding request_of
parts q r e = go (first_byte (get_or q 0 0)) e
  where
    none-some : none ≡ some r → ⊥
    none-some w = let z : ◌≡◌ {A = ℕ} 0 1 = cc in omega arith

    read : (c : Opcode) (f : Bool) (hs : Option (List Header)) → read_headers q (prefix_of c) ≡ hs → request_with c f q hs ≡ some r → Parts q r
    read c f none k w = absurd (none-some w)
    read c f (some hs) k w =
        let a : record { opcode = c; final = f; bytes = q; headers = hs } ≡ r = cc in
        subst (λ (x : Packet). Parts q x) a (record { bytes = refl; headers = k })

    long : (c : Opcode) (f t : Bool) → pick t none (request_with c f q (read_headers q (prefix_of c))) ≡ some r → Parts q r
    long c f true w = absurd (none-some w)
    long c f false w = read c f (read_headers q (prefix_of c)) refl w

    go : (b : Maybe FirstByte) → request_by b q ≡ some r → Parts q r
    go None w = absurd (none-some w)
    go (Some b) w = long b.opcode b.is_final (ltb (length q) (prefix_of b.opcode)) w

-- by the way it goes
abbrev pub Ready : Route → Engine → List ℕ → List Header → Type 0
Ready (Plain b) e q hs = Unit {0}
Ready Connect e q hs = read_headers q 7 ≡ some hs
Ready (Gather f k g) e q hs = (read_headers q (from_of k) ≡ some hs) × (sound_gathered (limit_of e) g ≡ true)
Ready (Send o srm wait) e q hs = (c : Chunk) × (sound_outgoing o c ≡ true)

module _ (e : Engine) (q : List ℕ) (hs : List Header) where
  ready-pick : (t : Bool) (x y : Route) → (t ≡ true → Ready x e q hs) → Ready y e q hs → Ready (pick t x y) e q hs
  ready-pick true x y a b = a refl
  ready-pick false x y a b = b

module _ (e : Engine) (q : List ℕ) (r : Packet) (known trails : Bool) where
  rejected-ready : (code : ℕ) → Ready (rejected_route e (heading_of r known trails) code) e q r.headers
  rejected-ready code = ready-pick e q r.headers (drained_by e (heading_of r known trails)) _ _ (λ _. tt) tt

  fresh : sound_gathered (limit_of e) nothing_gathered ≡ true
  fresh = le-leb 0 (limit_of e) (omega arith)

  dispatch-ready : (o : Opcode) → read_headers q (prefix_of o) ≡ some r.headers
      → Ready (dispatch_route o e (heading_of r known trails)) e q r.headers
  dispatch-ready op.Connect k = k
  dispatch-ready op.Abort k = tt
  dispatch-ready op.Disconnect k = tt
  dispatch-ready op.SetPath k = tt
  dispatch-ready op.Put k = (k, fresh)
  dispatch-ready op.Get k = (k, fresh)
  dispatch-ready op.Action k = (k, fresh)
  dispatch-ready op.Session k = (k, fresh)
  dispatch-ready (op.UserDefined x) k = (k, fresh)

  module _ (k : read_headers q (prefix_of r.opcode) ≡ some r.headers) where
    -- from where the open operation's headers start
    from-open : (o : Opcode) → same_opcode r.opcode o ≡ true → read_headers q (prefix_of o) ≡ some r.headers
    from-open o h = subst (λ (x : Opcode). read_headers q (prefix_of x) ≡ some r.headers) (same-equal r.opcode o h) k

    admitted-ready : (x : Admission) → Ready (admitted_route x e (heading_of r known trails)) e q r.headers
    admitted-ready (Ok x) = dispatch-ready r.opcode k
    admitted-ready (Err code) = rejected-ready code

    open-ready : Ready (open_route e (heading_of r known trails)) e q r.headers
    unfolding open_route
    open-ready =
        ready-pick e q r.headers (same_opcode r.opcode op.Connect) _ _ (from-open op.Connect)
        (admitted-ready (admission_of (rejection e r.opcode (survey_of (some r.headers)) known)))

    inside-ready : (o : Operation) → sound_operation (limit_of e) o ≡ true → Ready (inside_route o e (heading_of r known trails)) e q r.headers
    inside-ready Nothing s = open-ready
    inside-ready Trailing s = open-ready
    inside-ready (Putting g srm) s = ready-pick e q r.headers (same_opcode r.opcode op.Put) _ _ (λ h. (from-open op.Put h, s)) tt
    inside-ready (Getting g srm confirm wait) s = ready-pick e q r.headers (same_opcode r.opcode op.Get) _ _ (λ h. (from-open op.Get h, s)) tt
    inside-ready (Sending o c srm wait) s = ready-pick e q r.headers (same_opcode r.opcode op.Get) _ _ (λ h. (c, s)) tt
    inside-ready (GatheringOp o g) s = ready-pick e q r.headers (same_opcode r.opcode o) _ _ (λ h. (from-open o h, s)) tt
    inside-ready (Connecting c f n) s = tt
    inside-ready (Draining code) s = ready-pick e q r.headers r.final _ _ (λ _. tt) tt

    heading_ready : sound_operation (limit_of e) e.operation ≡ true → Ready (heading_route e (heading_of r known trails)) e q r.headers
    unfolding heading_route
    heading_ready s =
        ready-pick e q r.headers (same_opcode r.opcode op.Abort) _ _ (λ _. tt)
        (ready-pick e q r.headers trails _ _ (λ _. ready-pick e q r.headers r.final _ _ (λ _. tt) tt) (inside-ready e.operation s))

pub ready : (e : Engine) (q t : List ℕ) → sound_operation (limit_of e) e.operation ≡ true → Ready (packet_route e q t) e q (headersIn (request_of q))
unfolding packet_route
ready e q t s = go (request_of q) refl
  where
    go : (x : Option Packet) → request_of q ≡ x → Ready (route_as x e q t) e q (headersIn x)
    go none h = ready-pick e q (headersIn none) (busy e.operation) _ _ (λ _. tt) tt
    go (some r) h = heading_ready e q r _ _ (parts q r h).headers s
