-- How the engine and the journal stand to one another between two calls, by what the engine awaits and by the operation that is open.
-- Assumes nothing.
use mathlib.Core.Path.{◌≡◌, refl, sym, ap, ◌∙◌, subst}
use mathlib.Core.List.{List, []}
use mathlib.Core.Bool.{Bool, true, false, true≢false}
use mathlib.Core.Option.{Option, none, some}
use Prim.Native.Nat.{ℕ, ◌≤◌, ◌<◌}
use native.Mathlib.Omega.{arith}
use lib.ListN.{length, get_or, take}
use lib.Dec.{leb, eqb}
use borrow.Author.Tests.{leb-true, leb-false}
use Rattle.base.specs.Pick.{pick}
use Rattle.packet.specs.FirstByte.{same_opcode}
use Rattle.packet.specs.Codes.{sent_code}
use Rattle.packet.specs.Packet.{Request as Packet, request_of, packet_bytes}
use Rattle.packet.specs.declared.opcode.Opcode.{Opcode}
use Rattle.packet.specs.declared.opcode.Opcode.TheVariants as op
use Rattle.journal.specs.Record.{Record}
use Rattle.journal.specs.Journal.{Opened, nothing, trailing, putting, getting, sending, gathering, draining, Journal, Entry, unchanged, opens, reply_to, reply_last, taken_at, headers_of as headersIn}
use Rattle.journal.specs.Checks.{Check, too_many_of}
use Rattle.incoming.specs.Gather.{gathering as gatheringOf}
use Rattle.incoming.specs.declared.gather.Gathered.{Gathered}
use Rattle.connection.specs.Reply.{front}
use Rattle.connection.specs.declared.peer.Peer.{Peer}
use Rattle.model.specs.Step.{Stores, with_reply, engine_with, Done, done, DoneTabled, wants, ends, replies, replies_code}
use Rattle.model.specs.Runs.{handed}
use Rattle.model.specs.Refusals.{end_of}
use Rattle.model.specs.Theorem.{settings_of}
use Rattle.server.specs.Numbers.{end_number}
use Rattle.server.specs.declared.Settings.{Settings}
use Rattle.server.specs.declared.Operation.{Operation}
use Rattle.server.specs.declared.Operation.TheVariants.{Nothing, Trailing, Putting, Getting, Sending, Gathering as GatheringOp, Connecting, Draining}
use Rattle.server.specs.declared.Await.{Await}
use Rattle.server.specs.declared.Await.TheVariants as await
use Rattle.server.specs.declared.End.{End}
use Rattle.server.specs.declared.End.TheVariants as end
use Rattle.server.specs.declared.Engine.{Engine}
use Rattle.server.specs.declared.Outcome.{Outcome}
use Rattle.server.specs.declared.Outcome.TheVariants as outcome
use Rattle.connection.proofs.Standings.{standing_of, Windowed}
use Rattle.incoming.proofs.Gathers.{PutAgrees, KeptAgrees}

-- ---- what is open

-- a Put: what the journal carries is gathered in the stores
pub record PutOpen (limit : ℕ) (g : Gathered) (srm : Bool) (h b : List ℕ) (x : Opened) : Type 0 where
  pub carries : Record
  pub is : x ≡ putting carries srm
  pub agrees : PutAgrees limit (gatheringOf g h b) carries

-- an operation of which the journal keeps headers alone
pub record KeptOpen (limit : ℕ) (g : Gathered) (f : List ℕ → Opened) (h b : List ℕ) (x : Opened) : Type 0 where
  pub keeps : List ℕ
  pub is : x ≡ f keeps
  pub agrees : KeptAgrees limit (gatheringOf g h b) keeps

-- an opcode to which the journal does nothing on a reply, and which is not Connect
abbrev pub Plain : Opcode → Type 0
Plain o = ((j : Journal) (r : Packet) (code : ℕ) (hs : List ℕ) → reply_to o j r code hs ≡ j) × (same_opcode o op.Connect ≡ false)

-- the operation, over the header and body stores, and what the journal has open
abbrev pub OpenedAt : ℕ → Operation → List ℕ → List ℕ → Opened → Type 0
OpenedAt limit Nothing h b x = x ≡ nothing
OpenedAt limit Trailing h b x = x ≡ trailing
OpenedAt limit (Putting g srm) h b x = PutOpen limit g srm h b x
OpenedAt limit (Getting g srm confirm wait) h b x = KeptOpen limit g getting h b x
OpenedAt limit (Sending o c srm wait) h b x = x ≡ sending
OpenedAt limit (GatheringOp o g) h b x = KeptOpen limit g (gathering o) h b x × Plain o
OpenedAt limit (Connecting c f n) h b x = ⊥
OpenedAt limit (Draining c) h b x = x ≡ draining

-- ---- the coupling

-- settings and standing are the journal's, and it has not ended; the open ids stand in the table store `ts`, and the checks of passwords
-- that the journal keeps are those of the window
pub record Fixed (ts : List ℕ) (st : Settings) (p : Peer) (j : Journal) : Type 0 where
  pub settings : j.settings ≡ settings_of st
  pub past : List Check
  pub standing : j.standing ≡ standing_of p ts past
  pub window : Windowed p past
  pub ended : j.ended ≡ false

-- which says nothing of what is open, of the packet read last and of the bytes of a packet begun
pub fixed_kept : {ts : List ℕ} {st : Settings} {p : Peer} {j : Journal} {b : List ℕ} {l : Option Packet} {o : Opened} → Fixed ts st p j
    → Fixed ts st p (record { settings = j.settings; begun = b; last = l; opened = o; standing = j.standing; ended = j.ended })
fixed_kept f = record { settings = f.settings; past = f.past; standing = f.standing; window = f.window; ended = f.ended }

-- and so are what is open and the bytes of a packet begun
pub record Held (ts : List ℕ) (st : Settings) (p : Peer) (o : Operation) (s : Stores) (q : List ℕ) (j : Journal) : Type 0 where
  pub fixed : Fixed ts st p j
  pub begun : j.begun ≡ q
  pub opened : OpenedAt st.max_object_size o s.headers s.body j.opened

-- the host's answer to the last packet, a Connect or a Disconnect, is awaited
pub record AskedBy (ts : List ℕ) (st : Settings) (p : Peer) (o : Opcode) (n : ℕ) (s : Stores) (j : Journal) : Type 0 where
  pub held : Held ts st p Nothing s [] j
  pub request : Packet
  pub last : j.last ≡ some request
  pub opcode : request.opcode ≡ o
  pub headers : request.headers ≡ headersIn (request_of (take n s.packet))

-- a reply to the last packet changes nothing, and that packet is no Connect
abbrev pub connects : Option Packet → Bool
connects none = false
connects (some r) = same_opcode r.opcode op.Connect

abbrev pub Still : Journal → Type 0
Still j = ((code : ℕ) (hs : List ℕ) → reply_last j.last j code hs ≡ j) × (connects j.last ≡ false)

-- while a reply waits, the journal is told by what it does once the reply is taken
abbrev pub CoupledAt : List ℕ → Await → Operation → Settings → Peer → ℕ → ℕ → Stores → Journal → Type 0
CoupledAt ts await.Bytes o st p b n s j = Held ts st p o s (take b s.packet) j
CoupledAt ts await.Taken o st p b n s j = (j.ended ≡ false) × Held ts st p o s [] (taken_at j.opened j (get_or s.reply 0 0))
CoupledAt ts await.Last o st p b n s j = j.ended ≡ true
CoupledAt ts await.Connect o st p b n s j = AskedBy ts st p op.Connect n s j
CoupledAt ts await.Disconnect o st p b n s j = AskedBy ts st p op.Disconnect n s j
CoupledAt ts await.Get o st p b n s j = Held ts st p o s [] j
CoupledAt ts await.Reply o st p b n s j = Held ts st p Nothing s [] j × Still j
CoupledAt ts await.Acknowledgement o st p b n s j = Held ts st p Nothing s [] j
CoupledAt ts await.Password o st p b n s j = AskedBy ts st p op.Connect n s j × (too_many_of j.standing.checks ≡ false)
CoupledAt ts await.Nonce o st p b n s j = AskedBy ts st p op.Connect n s j
CoupledAt ts await.Credentials o st p b n s j = Held ts st p Nothing s [] j
CoupledAt ts await.Body o st p b n s j = Held ts st p o s [] j
CoupledAt ts await.Nothing o st p b n s j = Unit {0}

abbrev pub Coupled : List ℕ → Engine → Stores → Journal → Type 0
Coupled ts e s j = CoupledAt ts e.awaits e.operation e.settings e.peer e.begun e.length s j

-- ---- what a step leads to is what the journal enters

-- a reply of over 65,535 bytes ended the engine (7)
abbrev pub too_large : Outcome → Bool
too_large (outcome.End end.ReplyTooLarge) = true
too_large (outcome.End end.Disconnected) = false
too_large (outcome.End end.Truncated) = false
too_large (outcome.End end.LengthTooSmall) = false
too_large (outcome.End end.Unreadable) = false
too_large (outcome.End end.OtherOperation) = false
too_large (outcome.End end.HeadersTooLarge) = false
too_large outcome.WantsBytes = false
too_large (outcome.Reply n) = false
too_large (outcome.Request r) = false
too_large (outcome.Refused r) = false

pub record Told (ts : List ℕ) (d : Done) (x : Entry) : Type 0 where
  pub given : handed d.outcome d.stores ≡ x.given
  pub after : Coupled ts d.engine d.stores x.next
  pub ends : too_large d.outcome ≡ false → end_of d.outcome ≡ x.number

pub told-pick : (ts : List ℕ) (t : Bool) (a b : Done) (x : Entry) → (t ≡ true → Told ts a x) → (t ≡ false → Told ts b x) → Told ts (pick t a b) x
told-pick ts true a b x f g = f refl
told-pick ts false a b x f g = g refl

-- the same if `P` holds, the premise on kept headers; the coupling holds whether `P` does or not, since an engine whose kept headers do not
-- fit has ended
pub record Follows (P : Type 0) (ts : List ℕ) (d : Done) (x : Entry) : Type 0 where
  pub told : P → Told ts d x
  pub after : Coupled ts d.engine d.stores x.next

pub told-follows : {P : Type 0} {ts : List ℕ} {d : Done} {x : Entry} → Told ts d x → Follows P ts d x
told-follows w = record { told = λ p. w; after = w.after }

-- a packet after which the headers `k` are kept, and which ends the engine if they do not fit
pub follows-kept : (k : List ℕ) (ts : List ℕ) (d : Done) (x : Entry) → (length k ≤ 65535 → Told ts d x)
    → (65535 < length k → d.engine.awaits ≡ await.Nothing) → Follows (length k ≤ 65535) ts d x
follows-kept k ts d x w n = record { told = w; after = go (leb (length k) 65535) refl }
  where
    go : (t : Bool) → leb (length k) 65535 ≡ t → Coupled ts d.engine d.stores x.next
    go true i = (w (leb-true _ _ i)).after
    go false i =
        subst (λ (a : Await). CoupledAt ts a d.engine.operation d.engine.settings d.engine.peer d.engine.begun d.engine.length
        d.stores x.next)
        (sym (n (leb-false _ _ i))) tt

-- the same of a step that may write the table store
abbrev pub ToldTabled : DoneTabled → Entry → Type 0
ToldTabled x y = Told x.tables x.done y

pub tabled-told-pick : (t : Bool) (a b : DoneTabled) (x : Entry) → (t ≡ true → ToldTabled a x) → (t ≡ false → ToldTabled b x)
    → ToldTabled (pick t a b) x
tabled-told-pick true a b x f g = f refl
tabled-told-pick false a b x f g = g refl

pub told-done : (ts : List ℕ) (e : Engine) (p : Peer) (o : Operation) (a : Await) (c : Outcome) (z : Stores) (j : Journal) (l : List Record)
    → CoupledAt ts a o e.settings p 0 e.length z j → handed c z ≡ l → end_of c ≡ none
    → Told ts (done (engine_with e.settings p o a 0 e.length e.target) c z) (record { next = j; given = l; number = none })
unfolding engine_with
told-done ts e p o a c z j l w g n = record { given = g; after = w; ends = λ i. n }

-- no operation that sends an object
abbrev pub quiet : Operation → Bool
quiet (Sending o c srm wait) = false
quiet Nothing = true
quiet Trailing = true
quiet (Putting g srm) = true
quiet (Getting g srm confirm wait) = true
quiet (GatheringOp o g) = true
quiet (Connecting c f n) = true
quiet (Draining c) = true

taken-still : (limit : ℕ) (o : Operation) (h b : List ℕ) (x : Opened) (j : Journal) (y : ℕ) → quiet o ≡ true → OpenedAt limit o h b x
    → taken_at x j y ≡ j
taken-still limit Nothing h b x j y q w = ap (λ (u : Opened). taken_at u j y) w
taken-still limit Trailing h b x j y q w = ap (λ (u : Opened). taken_at u j y) w
taken-still limit (Putting g srm) h b x j y q w = ap (λ (u : Opened). taken_at u j y) w.is
taken-still limit (Getting g srm confirm wait) h b x j y q w = ap (λ (u : Opened). taken_at u j y) w.is
taken-still limit (Sending o c srm wait) h b x j y q w = absurd (let z : ◌≡◌ {A = ℕ} 0 1 = cc in omega arith)
taken-still limit (GatheringOp o g) h b x j y q w = ap (λ (u : Opened). taken_at u j y) w.0.is
taken-still limit (Connecting c f n) h b x j y q w = absurd w
taken-still limit (Draining c) h b x j y q w = ap (λ (u : Opened). taken_at u j y) w

module _ (ts : List ℕ) (e : Engine) (p : Peer) (z : Stores) (j : Journal) where
  pub told-ends : (x : End) → Told ts (ends e p x z) (record { next = j; given = []; number = some (end_number x) })
  unfolding engine_with
  told-ends x = record { given = refl; after = tt; ends = λ i. refl }

  -- a reply that is too long ends the engine, and not the journal
  pub told_too_large : Told ts (ends e p end.ReplyTooLarge z) (unchanged j)
  unfolding engine_with
  told_too_large = record { given = refl; after = tt; ends = λ i. absurd (true≢false i) }

  pub told-wants : (o : Operation) → Held ts e.settings p o z [] j → Told ts (wants e p o z) (unchanged j)
  told-wants o w = told-done ts e p o await.Bytes outcome.WantsBytes z j [] w refl refl

  pub told-replies : (o : Operation) (q : List ℕ) → quiet o ≡ true → Held ts e.settings p o z [] j
      → Told ts (replies e p o await.Taken q z) (unchanged j)
  told-replies o q k w =
      told-done ts e p o await.Taken (outcome.Reply (length q)) (with_reply z (front q z.reply)) j [] (
        w.fixed.ended,
        subst (λ (x : Journal). Held ts e.settings p o (with_reply z (front q z.reply)) [] x)
            (sym (taken-still e.settings.max_object_size o z.headers z.body j.opened j (get_or (front q z.reply) 0 0) k w.opened))
            (record { fixed = w.fixed; begun = w.begun; opened = w.opened }),
      )
      refl
      refl

  pub told-code : (code : ℕ) → Held ts e.settings p Nothing z [] j → Told ts (replies_code e p Nothing code z) (unchanged j)
  told-code code w = told-replies Nothing (packet_bytes (sent_code code) [] []) refl w

  -- a Get whose object was sent closes on a reply that is not 0x90
  pub told-closes : (c : Outcome) (y : List ℕ) → handed c (with_reply z y) ≡ [] → end_of c ≡ none → eqb (get_or y 0 0) 0x90 ≡ false
      → Fixed ts e.settings p j
      → j.begun ≡ [] → j.opened ≡ sending
      → Told ts (done (engine_with e.settings p Nothing await.Taken 0 e.length e.target) c (with_reply z y)) (unchanged j)
  told-closes c y g n b f k w =
      told-done ts e p Nothing await.Taken c (with_reply z y) j [] (
        f.ended,
        subst (λ (x : Journal). Held ts e.settings p Nothing (with_reply z y) [] x)
            (sym (ap (λ (u : Opened). taken_at u j (get_or y 0 0)) w ∙ ap (λ (t : Bool). pick t j (opens j nothing)) b))
            (record { fixed = fixed_kept f; begun = k; opened = refl }),
      )
      g
      n
