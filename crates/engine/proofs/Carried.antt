-- How a call that the guard let go on comes to the model's step by its plan, and plans for what the lower layers sent.
-- Assumes nothing.
use mathlib.Core.Path.{◌≡◌, refl, sym, ap, ◌∙◌}
use mathlib.Core.List.{List}
use mathlib.Core.Bool.{Bool, true, false}
use mathlib.Core.Option.{Option, none, some}
use Prim.Native.Nat.{ℕ, ◌-◌}
use Rattle.packet.specs.Packet.{packet_bytes}
use Rattle.connection.specs.Reply.{Sending as Sent, send_bytes, sent_into, front}
use Rattle.connection.specs.declared.peer.Peer.{Peer}
use Rattle.outgoing.specs.Object.{Made, made, next_packet}
use Rattle.outgoing.specs.declared.object.Outgoing.{Outgoing}
use Rattle.outgoing.specs.declared.object.NextPacket.{NextPacket}
use Rattle.outgoing.specs.declared.object.Next.{Next}
use Rattle.outgoing.specs.declared.object.Next.TheVariants as next
use Rattle.server.specs.declared.CallResult.{CallResult}
use Rattle.engine.specs.declared.step.Plan.{Plan}
use Rattle.engine.proofs.Guards.{Goes, guarded_in, turned}
use Rattle.engine.proofs.Plans.{Carries}
use Rattle.engine.specs.Guard.{Verdict, refuses, refused_with}
use Rattle.model.specs.Step.{Stepped, stepped, after, Stores, Done, with_reply, capacity_of, sent}
use Rattle.model.specs.Guard.{guarded}
use Rattle.model.specs.Object.{sends_made, sends_packet}
use Rattle.engine.specs.declared.step.ShortReply.{ShortReply}
use Rattle.engine.specs.declared.step.ShortReply.TheVariants.{Silent}
use Rattle.engine.specs.Step.{small_bytes, planned, ends_plan, code_plan, asks_plan, Written, written, within, carried, took_by, sent_plan, sent_by, replies_by}
use Rattle.engine.specs.Object.{made_plan, packet_plan, plan_made, object_plan}
use Rattle.server.specs.declared.CallKind.{CallKind}
use Rattle.server.specs.declared.Refusal.{Refusal}
use Rattle.server.specs.declared.Engine.{Engine}

-- a packet of an object
pub made-carried : (e : Engine) (srm wait : Bool) (n : Next) (m : Made) (s : Stores)
    → planned (made_plan n e srm wait m.packet) (with_reply s m.reply) ≡ sends_made e srm wait n m s
unfolding asks_plan code_plan packet_bytes
made-carried e srm wait (next.Send n true) m s = refl
made-carried e srm wait (next.Send n false) m s = refl
made-carried e srm wait next.Read m s = refl
made-carried e srm wait next.TooLarge m s = refl

pub packet-carried : (e : Engine) (srm wait : Bool) (m : Made) (s : Stores)
    → planned (packet_plan e srm wait m.packet) (with_reply s m.reply) ≡ sends_packet e srm wait m s
unfolding packet_plan
packet-carried e srm wait m s = made-carried e srm wait m.packet.next m s

-- a packet of an object, by what `next_packet` gives
pub object-made : (e : Engine) (srm wait : Bool) (o : Outgoing) (h y z : List ℕ) (k : NextPacket) (p : Plan) (n : ℕ)
    → made k z ≡ next_packet (n - 3) o h y → n ≡ e.peer.remote_max_packet_length → p ≡ packet_plan e srm wait k
    → plan_made p z ≡ object_plan e srm wait (next_packet (capacity_of e) o h y)
object-made e srm wait o h y z k p n w r q =
    ap (λ (x : Plan). plan_made x z) q ∙ ap (λ (x : Made). object_plan e srm wait x) w
    ∙ ap (λ (i : ℕ). object_plan e srm wait (next_packet (i - 3) o h y)) r

-- ---- Calls

-- a call that the guard refuses
pub refused-call : (k : CallKind) (e : Engine) (s : Stores) (go : Stepped) (x : Verdict) (q : Refusal) (r : CallResult) → r ≡ refused_with q e
    → x ≡ guarded_in k e s → x ≡ refuses q → stepped r s ≡ guarded k e s go
refused-call k e s go x q r h i w = ap (λ (x : CallResult). stepped x s) h ∙ turned k e s go x q i w

-- a call that goes on, and carries a plan out
pub carried-call : (kind : CallKind) (e : Engine) (s : Stores) (d : Done) (p q : Plan) (w : Written) → Goes kind e s → w ≡ carried p s.reply
    → p ≡ q → Carries q s d → within w s ≡ guarded kind e s (after 0 d)
carried-call kind e s d p q w g h k is =
    ap (λ (x : Written). within x s) h ∙ ap (λ (x : Plan). after 0 (planned x s)) k ∙ ap (λ (x : Done). after 0 x) is.is
    ∙ sym (g.whole (after 0 d))

-- a call that goes on, and has no reply to write
pub silent-call : (kind : CallKind) (e : Engine) (s : Stores) (d : Done) (p q : Plan) (r : CallResult) → Goes kind e s → r ≡ took_by p → p ≡ q
    → q.small ≡ Silent → Carries q s d → stepped r s ≡ guarded kind e s (after 0 d)
silent-call kind e s d p q r g h k m is =
    ap (λ (x : CallResult). stepped x s) (h ∙ ap (λ (x : Plan). took_by x) k)
    ∙ ap (λ (x : ShortReply). stepped (took_by q) (with_reply s (front (small_bytes x) s.reply))) (sym m)
    ∙ ap (λ (x : Done). after 0 x) is.is
    ∙ sym (g.whole (after 0 d))

-- what was sent, and nothing more to write
pub took-sent : (e : Engine) (p : Peer) (q : Option (List ℕ)) (z : Sent) (s : Stores) → z ≡ sent_into q s.reply
    → stepped (took_by (sent_plan e p z.answer)) (with_reply s z.reply) ≡ after 0 (sent e p q s)
unfolding sent_plan ends_plan
took-sent e p none z s h = simp h
took-sent e p (some q) z s h = simp h

-- the same by the reply store alone
pub sent-written : (e : Engine) (p : Peer) (code : ℕ) (fields hs y : List ℕ) (n : ℕ) (z : Sent) (x : Plan) (r : CallResult)
    → z ≡ sent_into (send_bytes n code fields hs) y → n ≡ p.remote_max_packet_length → x ≡ sent_plan e p z.answer → r ≡ took_by x
    → written r z.reply ≡ replies_by e p code fields hs y
unfolding replies_by
sent-written e p code fields hs y n z x r h i k m =
    ap (λ (t : CallResult). written t z.reply) (m ∙ ap (λ (x : Plan). took_by x) k)
    ∙ ap (λ (z : Sent). sent_by e p z) (h ∙ ap (λ (n : ℕ). sent_into (send_bytes n code fields hs) y) i)

-- the same among the stores
pub sent-stepped : (e : Engine) (s : Stores) (p : Peer) (q : Option (List ℕ)) (z : Sent) (x : Plan) (r : CallResult)
    → z ≡ sent_into q s.reply → x ≡ sent_plan e p z.answer → r ≡ took_by x
    → stepped r (with_reply s z.reply) ≡ after 0 (sent e p q s)
sent-stepped e s p q z x r h k m =
    ap (λ (y : CallResult). stepped y (with_reply s z.reply)) (m ∙ ap (λ (y : Plan). took_by y) k) ∙ took-sent e p q z s h
