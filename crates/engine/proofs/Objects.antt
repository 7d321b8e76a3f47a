-- The start, and an object that is sent: how each way of the code is the model's. Assumes nothing.
use mathlib.Core.Path.{◌≡◌, refl, sym, ap, ◌∙◌}
use mathlib.Core.List.{List, [], ◌∷◌}
use mathlib.Core.Bool.{Bool, true, false, ◌&&◌, ◌||◌}
use Prim.Native.Nat.{ℕ, ◌<◌, ◌≤◌}
use native.Mathlib.Omega.{arith}
use denote.Enum.Declared.{tag_of}
use types.Run.{OneOf, miss}
use borrow.Author.Tests.{lt-ltb, le-ltb}
use lib.ListN.{length}
use lib.Dec.{ltb}
use lib.Seq.{paste}
use Rattle.connection.proofs.Front.{front-paste}
use Rattle.connection.specs.Reply.{front}
use Rattle.table.specs.Targets.{unnamed}
use Rattle.connection.specs.Peer.{fresh_peer}
use Rattle.incoming.specs.declared.gather.Gathered.{Gathered}
use Rattle.outgoing.specs.Object.{Made, next_packet, body_given_of}
use Rattle.outgoing.specs.declared.object.Outgoing.{Outgoing}
use Rattle.outgoing.specs.declared.object.Chunk.{Chunk}
use Rattle.model.specs.Step.{Stores, Done, stepped, with_headers, after, capacity_of, engine_with}
use Rattle.model.specs.Guard.{refuse, long_realm, bad_headers, sound_operation}
use Rattle.model.specs.Calls.{body_for, object_for, started, start_step}
use Rattle.model.specs.Object.{sends_packet, sends_next, object_of}
use Rattle.engine.specs.Guard.{Verdict, proceed, refuses, guarded_start, refused_with}
use Rattle.engine.specs.Step.{Written, within, carried}
use Rattle.engine.specs.Object.{packet_plan, packet_sent}
use Rattle.server.specs.declared.Settings.{Settings}
use Rattle.server.specs.declared.Operation.{Operation}
use Rattle.server.specs.declared.Operation.TheVariants.{Nothing, Trailing, Putting, Getting, Sending, Gathering as GatheringOp, Connecting, Draining}
use Rattle.server.specs.declared.Await.TheVariants as await
use Rattle.server.specs.declared.Engine.{Engine}
use Rattle.server.specs.declared.Outcome.TheVariants as outcome
use Rattle.server.specs.declared.CallResult.{CallResult}
use Rattle.engine.specs.declared.step.Plan.{Plan}
use Rattle.server.specs.contracts.Operation.{the_type}
use Rattle.model.proofs.Steps.{OutgoingFits, outgoing_within}
use Rattle.model.proofs.FromHost.{headers-fit}
use Rattle.server.specs.declared.Refusal.{Refusal}
use Rattle.server.specs.declared.Refusal.TheVariants as refusal
use Rattle.engine.proofs.Guards.{lack_in, same_lack, told_refusal, no_refusal}
use Rattle.engine.proofs.Carried.{packet-carried}

-- ---- a packet of an object

pub packet-sent : (e : Engine) (srm wait : Bool) (w : Written) (p : Plan) (m n : Made) → w ≡ carried p m.reply
    → p ≡ packet_plan e srm wait m.packet
    → m ≡ n → w ≡ packet_sent e srm wait n
packet-sent e srm wait w p m n h k is =
    h ∙ ap (λ (x : Plan). carried x m.reply) k ∙ ap (λ (x : Made). packet_sent e srm wait x) is

pub packet-call : (e : Engine) (s : Stores) (srm wait : Bool) (w : Written) (m : Made) → w ≡ packet_sent e srm wait m
    → within w s ≡ after 0 (sends_packet e srm wait m s)
packet-call e s srm wait w m h =
    ap (λ (x : Written). within x s) h ∙ ap (λ (x : Done). after 0 x) (packet-carried e srm wait m s)

-- ---- body bytes

-- nothing is sent
pub body-other : (o : Operation) (e : Engine) (d : List ℕ) (s : Stores) → OneOf (0 ∷ 1 ∷ 2 ∷ 3 ∷ 5 ∷ 6 ∷ 7 ∷ []) (tag_of the_type o)
    → refuse refusal.WrongMoment e s ≡ body_for o e d s
body-other Nothing e d s k = refl
body-other Trailing e d s k = refl
body-other (Putting g srm) e d s k = refl
body-other (Getting g srm confirm wait) e d s k = refl
body-other (GatheringOp o g) e d s k = refl
body-other (Connecting code f n) e d s k = refl
body-other (Draining code) e d s k = refl
body-other (Sending o c srm wait) e d s k = absurd (miss (0 ∷ 1 ∷ 2 ∷ 3 ∷ 5 ∷ 6 ∷ 7 ∷ []) 4 tt k)

module _ (p : Operation) (o : Outgoing) (c : Chunk) (srm wait : Bool) (is : p ≡ Sending o c srm wait) where
  pub sending_bounds : (limit : ℕ) → sound_operation limit p ≡ true → OutgoingFits o c
  sending_bounds limit k = outgoing_within o c (simp is at k)

  -- more than were asked for
  pub body_much : (e : Engine) (d : List ℕ) (s : Stores) → c.room < length d → refuse refusal.WrongMoment e s ≡ body_for p e d s
  body_much e d s w = simp (is, lt-ltb _ _ w)

  pub body-goes : (e : Engine) (d : List ℕ) (s : Stores) → length d ≤ c.room
      → after 0 (sends_packet e srm wait (body_given_of o c d s.reply) s) ≡ body_for p e d s
  body-goes e d s w = simp (is, le-ltb _ _ w)

-- ---- an object

-- bytes that are copied to the front of a store
pub store-front : (hs y : List ℕ) → length hs ≤ length y → paste y 0 hs (length hs) ≡ front hs y
store-front hs y h = front-paste [] y hs (omega arith)

pub object-other : (o : Operation) (e : Engine) (hs : List ℕ) (has : Bool) (s : Stores) → OneOf (0 ∷ 1 ∷ 2 ∷ 4 ∷ 5 ∷ 6 ∷ 7 ∷ []) (tag_of the_type o)
    → refuse refusal.WrongMoment e s ≡ object_for o e hs has s
object-other Nothing e hs has s k = refl
object-other Trailing e hs has s k = refl
object-other (Putting g srm) e hs has s k = refl
object-other (Sending o c srm wait) e hs has s k = refl
object-other (GatheringOp o g) e hs has s k = refl
object-other (Connecting code f n) e hs has s k = refl
object-other (Draining code) e hs has s k = refl
object-other (Getting g srm confirm wait) e hs has s k = absurd (miss (0 ∷ 1 ∷ 2 ∷ 4 ∷ 5 ∷ 6 ∷ 7 ∷ []) 3 tt k)

-- good header bytes are not too long
pub good_length : (hs : List ℕ) (t : Bool) → t ≡ bad_headers hs → t ≡ false → length hs ≤ 65535
good_length hs t h k = headers-fit hs (sym h ∙ k)

module _ (p : Operation) (g : Gathered) (srm confirm wait : Bool) (is : p ≡ Getting g srm confirm wait) (e : Engine) (hs : List ℕ)
    (t : Bool) (bad : t ≡ bad_headers hs) (has : Bool) (s : Stores) where
  pub object-bad : t ≡ true → refuse refusal.BadAnswer e s ≡ object_for p e hs has s
  object-bad h = simp (is, sym bad ∙ h)

  pub object-goes : t ≡ false → (o : Outgoing) (q : Bool) (h : List ℕ) (w : Written)
      → w ≡ packet_sent e q wait (next_packet (capacity_of e) o h s.reply) → o ≡ object_of (length hs) confirm has → q ≡ srm || confirm
      → h ≡ front hs s.headers → within w (with_headers s h) ≡ object_for p e hs has s
  unfolding sends_next
  object-goes f o q h w sent whole granted stored =
      packet-call e (with_headers s h) q wait w (next_packet (capacity_of e) o h s.reply) sent
      ∙ ap (λ (x : Outgoing). after 0 (sends_next e x q wait (with_headers s h))) whole
      ∙ ap (λ (x : Bool). after 0 (sends_next e (object_of (length hs) confirm has) x wait (with_headers s h))) granted
      ∙ ap (λ (x : List ℕ). after 0 (sends_next e (object_of (length hs) confirm has) (srm || confirm) wait (with_headers s x))) stored
      ∙ sym (simp (is, sym bad ∙ f))

-- ---- the start

module _ (st : Settings) (l : List ℕ) (s : Stores) (t : List ℕ) (m : Bool) (long : m ≡ (st.has_realm && ltb 254 (length l))) (x : Verdict)
    (e : Engine) where
  abbrev limit : ℕ
  limit = st.max_object_size

  same-long : (b : Bool) → m ≡ b → long_realm st l ≡ b
  unfolding long_realm
  same-long b h = sym long ∙ h

  -- what the guard says of the start
  abbrev guarded_at : Verdict
  guarded_at = guarded_start limit m (length t) (length s.packet) (length s.headers) (length s.body) (length s.reply)

  pub start-refused : x ≡ guarded_at → e ≡ engine_with st fresh_peer Nothing await.Nothing 0 0 unnamed → (q : Refusal) → x ≡ refuses q → (r : CallResult)
      → r ≡ refused_with q e → stepped r s ≡ start_step st l s t
  unfolding start_step guarded_start
  start-refused said k q w r h = go (lack_in limit s t) m refl refl (sym said ∙ w)
    where
      go : (u v : Bool) → lack_in limit s t ≡ u → m ≡ v → guarded_at ≡ refuses q → stepped r s ≡ start_step st l s t
      go true v a b i =
          let z : refuses refusal.StoreTooShort ≡ refuses q = simp a at i in
          simp (h, k, sym (told_refusal _ _ z), same_lack limit s t true a)
      go false true a b i =
          let z : refuses refusal.BadAnswer ≡ refuses q = simp (a, b) at i in
          simp (h, k, sym (told_refusal _ _ z), same_lack limit s t false a, same-long true b)
      go false false a b i = let z : proceed ≡ refuses q = simp (a, b) at i in absurd (no_refusal q z)

  pub start-goes : x ≡ guarded_at → e ≡ engine_with st fresh_peer Nothing await.Bytes 0 0 unnamed → x ≡ proceed
      → stepped (record { engine = e; taken = 0; outcome = outcome.WantsBytes }) s ≡ start_step st l s t
  unfolding start_step guarded_start started
  start-goes said k w = go (lack_in limit s t) m refl refl (sym said ∙ w)
    where
      go : (u v : Bool) → lack_in limit s t ≡ u → m ≡ v → guarded_at ≡ proceed
          → stepped (record { engine = e; taken = 0; outcome = outcome.WantsBytes }) s ≡ start_step st l s t
      go true v a b i = let z : refuses refusal.StoreTooShort ≡ proceed = simp a at i in absurd (no_refusal _ (sym z))
      go false true a b i = let z : refuses refusal.BadAnswer ≡ proceed = simp (a, b) at i in absurd (no_refusal _ (sym z))
      go false false a b i = simp (k, same_lack limit s t false a, same-long false b)
