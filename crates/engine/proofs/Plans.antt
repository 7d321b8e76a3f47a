-- Carrying out a plan is the model's step. Assumes nothing.
use mathlib.Core.Path.{◌≡◌, refl}
use mathlib.Core.Bool.{Bool, true, false, true≢false, false≢true}
use mathlib.Core.List.{[]}
use Prim.Native.Nat.{ℕ}
use Rattle.base.specs.Pick.{pick}
use Rattle.packet.specs.Packet.{Request as Packet, packet_bytes}
use Rattle.packet.specs.declared.opcode.Opcode.{Opcode}
use Rattle.connection.specs.declared.peer.Peer.{Peer}
use Rattle.incoming.specs.Gather.{Gathering}
use Rattle.incoming.specs.declared.survey.Survey.{Survey}
use Rattle.model.specs.Step.{Stores, Done, with_gathered, wants, asks, ends, replies, continues}
use Rattle.model.specs.Connect.{replies_fields}
use Rattle.model.specs.Operation.{put_continues, put_gathered, get_continues, get_gathered, headers_gathered}
use Rattle.engine.specs.Step.{planned, wants_plan, asks_plan, ends_plan, code_plan, code_keeping_plan, continue_plan, fields_plan}
use Rattle.engine.specs.Operation.{put_continue_plan, put_plan, get_continue_plan, get_plan, headers_plan}
use Rattle.server.specs.declared.Operation.{Operation}
use Rattle.server.specs.declared.Operation.TheVariants.{Nothing, Putting, Getting, Gathering as GatheringOp}
use Rattle.server.specs.declared.Await.{Await}
use Rattle.server.specs.declared.Await.TheVariants as await
use Rattle.server.specs.declared.End.{End}
use Rattle.server.specs.declared.End.TheVariants as end
use Rattle.server.specs.declared.Engine.{Engine}
use Rattle.server.specs.declared.HostRequest.{HostRequest}
use Rattle.engine.specs.declared.step.Plan.{Plan}

-- the plan, carried out over these stores, is this step
pub record Carries (p : Plan) (s : Stores) (d : Done) : Type 0 where
  pub is : planned p s ≡ d

pub wants-planned : (e : Engine) (p : Peer) (o : Operation) (s : Stores) → Carries (wants_plan e p o) s (wants e p o s)
unfolding wants_plan
wants-planned e p o s = record { is = refl }

pub asks-planned : (e : Engine) (p : Peer) (o : Operation) (a : Await) (r : HostRequest) (s : Stores)
    → Carries (asks_plan e p o a r) s (asks e p o a r s)
unfolding asks_plan
asks-planned e p o a r s = record { is = refl }

pub ends-planned : (e : Engine) (p : Peer) (x : End) (s : Stores) → Carries (ends_plan e p x) s (ends e p x s)
unfolding ends_plan
ends-planned e p n s = record { is = refl }

pub code-planned : (e : Engine) (p : Peer) (a : Await) (b : ℕ) (s : Stores)
    → Carries (code_plan e p a b) s (replies e p Nothing a (packet_bytes b [] []) s)
unfolding code_plan packet_bytes
code-planned e p a b s = record { is = refl }

pub fields_planned : (e : Engine) (p : Peer) (code : ℕ) (s : Stores) → Carries (fields_plan e p code) s (replies_fields e p code s)
unfolding fields_plan packet_bytes
fields_planned e p code s = record { is = refl }

pub code_keeping_planned : (e : Engine) (o : Operation) (b : ℕ) (s : Stores)
    → Carries (code_keeping_plan e o b) s (replies e e.peer o await.Taken (packet_bytes b [] []) s)
unfolding code_keeping_plan packet_bytes
code_keeping_planned e o b s = record { is = refl }

pub continue-planned : (e : Engine) (o : Operation) (grant : Bool) (s : Stores) → Carries (continue_plan e o grant) s (continues e o grant s)
unfolding continue_plan packet_bytes
continue-planned e o true s = record { is = refl }
continue-planned e o false s = record { is = refl }

-- a plan by a test
pub pick-planned : (t : Bool) {p q : Plan} {s : Stores} {d f : Done} → Carries p s d → Carries q s f → Carries (pick t p q) s (pick t d f)
pick-planned true a b = a
pick-planned false a b = b

-- by a test that is said in two ways
pub pick-planned_as : (t u : Bool) {p q : Plan} {s : Stores} {d f : Done} → t ≡ u → Carries p s d → Carries q s f
    → Carries (pick t p q) s (pick u d f)
pick-planned_as true true e a b = a
pick-planned_as true false e a b = absurd (true≢false e)
pick-planned_as false true e a b = absurd (false≢true e)
pick-planned_as false false e a b = b

-- ---- a gathered packet

pub put-planned : (e : Engine) (r : Packet) (v : Survey) (srm confirm : Bool) (g : Gathering) (s : Stores)
    → Carries (put_plan e g.got (record { is_final = r.final; asked = v.additional; srm = srm; confirm_srm = confirm })) (with_gathered s g)
    (put_gathered e r v srm confirm g s)
unfolding put_plan
put-planned e r v srm confirm g s =
    pick-planned g.got.full (ends-planned e e.peer end.HeadersTooLarge t)
    (pick-planned r.final (pick-planned g.got.over (code-planned e e.peer await.Taken 0xCD t)
    (asks-planned e e.peer Nothing await.Reply _ t)) (go srm))
  where
    t : Stores
    t = with_gathered s g

    go : (srm : Bool)
        → Carries (put_continue_plan e g.got (record { is_final = r.final; asked = v.additional; srm = srm; confirm_srm = confirm })) t
        (put_continues e g.got srm confirm v.additional t)
    go true = pick-planned v.additional (continue-planned e (Putting g.got true) false t) (wants-planned e e.peer (Putting g.got true) t)
    go false = pick-planned g.got.over (code_keeping_planned e _ 0xCD t) (continue-planned e (Putting g.got confirm) confirm t)

pub get_planned : (e : Engine) (r : Packet) (v : Survey) (srm confirm : Bool) (g : Gathering) (s : Stores)
    → Carries (get_plan e g.got (record { is_final = r.final; asked = v.wait; srm = srm; confirm_srm = confirm })) (with_gathered s g)
    (get_gathered e r v srm confirm g s)
unfolding get_plan
get_planned e r v srm confirm g s =
    pick-planned g.got.full (ends-planned e e.peer end.HeadersTooLarge t)
    (pick-planned r.final (asks-planned e e.peer _ await.Get _ t) (go srm))
  where
    t : Stores
    t = with_gathered s g

    go : (srm : Bool)
        → Carries (get_continue_plan e g.got (record { is_final = r.final; asked = v.wait; srm = srm; confirm_srm = confirm })) t
        (get_continues e g.got srm confirm v.wait t)
    go true = wants-planned e e.peer (Getting g.got true confirm v.wait) t
    go false = continue-planned e (Getting g.got confirm false v.wait) confirm t

pub headers-planned : (e : Engine) (r : Packet) (o : Opcode) (g : Gathering) (s : Stores)
    → Carries (headers_plan e o g.got r.final) (with_gathered s g) (headers_gathered e r o g s)
unfolding headers_plan
headers-planned e r o g s =
    pick-planned g.got.full (ends-planned e e.peer end.HeadersTooLarge t)
    (pick-planned r.final (asks-planned e e.peer Nothing await.Reply _ t) (continue-planned e (GatheringOp o g.got) false t))
  where
    t : Stores
    t = with_gathered s g
