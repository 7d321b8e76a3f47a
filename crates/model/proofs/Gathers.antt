-- A packet of a Put, a Get or an operation of headers alone, and a packet of an object that is sent: engine and journal agree.
-- Assumes nothing.
use mathlib.Core.Path.{◌≡◌, refl, sym, ap, ap₂, ◌∙◌, subst}
use mathlib.Core.List.{List, [], ◌∷◌, ◌++◌}
use mathlib.Core.Bool.{Bool, true, false, not, or-true}
use mathlib.Core.Option.{Option, none, some}
use Prim.Native.Nat.{ℕ, ◌≤◌, ◌<◌}
use native.Mathlib.Omega.{arith}
use lib.ListN.{length, get_or, take}
use lib.Dec.{leb, eqb}
use borrow.Author.Tests.{ltb-true, ltb-false, lt-leb, le-leb}
use Rattle.std.specs.Prelude.{Some, None}
use Rattle.base.specs.Pick.{pick}
use Rattle.packet.specs.FirstByte.{same_opcode}
use Rattle.packet.specs.Codes.{sent_code}
use Rattle.packet.specs.Header.{all_bytes}
use Rattle.packet.specs.Packet.{Request as Packet, packet_bytes}
use Rattle.packet.specs.declared.opcode.Opcode.{Opcode}
use Rattle.packet.specs.declared.opcode.Opcode.TheVariants as op
use Rattle.journal.specs.Record.{Record, joined, size_of, carried_by, kept_by_get}
use Rattle.journal.specs.Journal.{Settings as JournalSettings, Opened, nothing, trailing, putting, getting, sending, gathering, Journal, unchanged, after, put_read, gather_read, reply_to, taken_at}
use Rattle.incoming.specs.Gather.{Gathering, gathering as gatheringOf}
use Rattle.incoming.specs.declared.survey.Survey.{Survey}
use Rattle.incoming.specs.declared.gather.Keep.TheVariants as keep
use Rattle.incoming.specs.declared.gather.Gathered.{Gathered}
use Rattle.outgoing.specs.Object.{Made, next_packet}
use Rattle.outgoing.specs.declared.object.Outgoing.{Outgoing}
use Rattle.outgoing.specs.declared.object.Next.{Next}
use Rattle.outgoing.specs.declared.object.Next.TheVariants as next
use Rattle.connection.specs.Reply.{front}
use Rattle.model.specs.Step.{Stores, with_reply, with_gathered, engine_with, replies_code, limit_of, continue_bytes, capacity_of}
use Rattle.model.specs.Operation.{put_body, put_gathered, put_packet, get_gathered, get_packet, headers_request, headers_gathered, headers_packet, gathers}
use Rattle.model.specs.Object.{sends_made, sends_packet, sends_next}
use Rattle.model.specs.Runs.{body_in, handed}
use Rattle.server.specs.declared.Operation.{Operation}
use Rattle.server.specs.declared.Operation.TheVariants.{Nothing, Trailing, Putting, Getting, Sending, Gathering as GatheringOp}
use Rattle.server.specs.declared.Await.TheVariants as await
use Rattle.server.specs.declared.Engine.{Engine}
use Rattle.server.specs.declared.HostRequest.TheVariants as request
use Rattle.server.specs.declared.Outcome.TheVariants as outcome
use Rattle.incoming.proofs.Gathers.{PutAgrees, KeptAgrees, put-agrees, get_agrees, all-agrees, put_full, get_full, headers-full}
use Rattle.outgoing.proofs.Sent.{SendsFrom}
use Rattle.model.proofs.Fit.{Base}
use Rattle.model.proofs.Steps.{headers-request, next-made}
use Rattle.model.proofs.Coupling.{PutOpen, Plain, OpenedAt, Fixed, Held, Still, fixed_kept, Told, Follows, follows-kept, told-pick, told-done, told-wants, told-replies, told-code, told-closes}

-- the body that a Put request hands over
body-handed : (g : Gathered) (b : List ℕ) → body_in (put_body g) b ≡ pick g.came (some (take g.body b)) none
body-handed g b = go g.came
  where
    go : (t : Bool) → body_in (pick t (Some g.body) None) b ≡ pick t (some (take g.body b)) none
    go true = refl
    go false = refl

module _ (ts : List ℕ) (e : Engine) (s : Stores) (j : Journal) (f : Fixed ts e.settings e.peer j) (r : Packet) where
  -- the journal after the packet, with something open
  pub held_after : (o : Operation) (x : Opened) (z : Stores) → OpenedAt (limit_of e) o z.headers z.body x
      → Held ts e.settings e.peer o z [] (after j (some r) x)
  held_after o x z w = record { fixed = fixed_kept f; begun = refl; opened = w }

  pub still_after : (o : Opcode) (x : Opened) → r.opcode ≡ o → Plain o → Still (after j (some r) x)
  still_after o x i p = (
    λ code hs. ap (λ (u : Opcode). reply_to u (after j (some r) x) r code hs) i ∙ p.0 (after j (some r) x) r code hs,
    ap (λ (u : Opcode). same_opcode u op.Connect) i ∙ p.1,
  )

  -- ---- Put

  module _ (x : Gathering) (c : Record) (w : PutAgrees (limit_of e) x c) where
    limit_is : j.settings.limit ≡ limit_of e
    limit_is = ap (λ (u : JournalSettings). u.limit) f.settings

    pub within_test : (t : Bool) → x.got.over ≡ t → leb (size_of c) j.settings.limit ≡ not t
    within_test true i =
        let z : limit_of e < size_of c = ltb-true _ _ (sym w.over ∙ i) in lt-leb (size_of c) j.settings.limit (omega (arith, limit_is))
    within_test false i =
        let z : size_of c ≤ limit_of e = ltb-false _ _ (sym w.over ∙ i) in le-leb (size_of c) j.settings.limit (omega (arith, limit_is))

    put-handed : x.got.over ≡ false → handed (outcome.Request (request.Put x.got.kept (put_body x.got))) (with_gathered s x) ≡ c ∷ []
    put-handed i =
        ap₂ (λ (h : List ℕ) (b : Option (List ℕ)). record { headers = h; body = b } ∷ []) (sym w.headers)
        (body-handed x.got x.body ∙ sym (w.body i).1)

    put-open : (srm : Bool) → PutOpen (limit_of e) x.got srm x.headers x.body (putting c srm)
    put-open srm = record { carries = c; is = refl; agrees = w }

    -- 0x4D before the final packet: what trails the Put is refused for both, or for neither
    overrun-told : (t : Bool)
        → Told ts (replies_code e e.peer (pick t Trailing Nothing) 0x4D (with_gathered s x)) (unchanged (after j (some r) (pick t trailing nothing)))
    overrun-told true =
        told-replies ts e e.peer (with_gathered s x) (after j (some r) trailing) Trailing (packet_bytes (sent_code 0x4D) [] []) refl
        (held_after Trailing trailing (with_gathered s x) refl)
    overrun-told false =
        told-code ts e e.peer (with_gathered s x) (after j (some r) nothing) 0x4D (held_after Nothing nothing (with_gathered s x) refl)

    put-told : (v : Survey) (srm confirm t u : Bool) → r.opcode ≡ op.Put → x.got.over ≡ t → r.final ≡ u
        → Told ts (put_gathered e r v srm confirm x s) (put_read j r srm (pick srm true confirm) c)
    unfolding put_read same_opcode
    put-told v srm confirm true true o i k =
        simp (w.full, i, k, within_test true i)
        (told-code ts e e.peer (with_gathered s x) (after j (some r) nothing) 0x4D (held_after Nothing nothing (with_gathered s x) refl))
    put-told v srm confirm false true o i k =
        simp (w.full, i, k, within_test false i)
        (told-done ts e e.peer Nothing await.Reply (outcome.Request (request.Put x.got.kept (put_body x.got))) (with_gathered s x)
        (after j (some r) nothing) (c ∷ [])
        (held_after Nothing nothing (with_gathered s x) refl, still_after op.Put nothing o (λ a b y z. refl, refl))
        (put-handed i) refl)
    put-told v true confirm t false o i k =
        simp (w.full, k, within_test t i, or-true (not t))
        (told-pick ts v.additional _ _ _
        (λ m. told-replies ts e e.peer (with_gathered s x) (after j (some r) (putting c true)) (Putting x.got true) (continue_bytes false) refl
        (held_after (Putting x.got true) (putting c true) (with_gathered s x) (put-open true)))
        (λ m. told-wants ts e e.peer (with_gathered s x) (after j (some r) (putting c true)) (Putting x.got true)
        (held_after (Putting x.got true) (putting c true) (with_gathered s x) (put-open true))))
    put-told v false confirm true false o i k =
        simp (w.full, i, k, within_test true i)
        (subst (λ (t : Bool). Told ts (replies_code e e.peer (pick e.settings.refuse_trailing Trailing Nothing) 0x4D (with_gathered s x))
        (unchanged (after j (some r) (pick t trailing nothing))))
        (sym (ap (λ (u : JournalSettings). u.refuses) f.settings)) (overrun-told e.settings.refuse_trailing))
    put-told v false confirm false false o i k =
        simp (w.full, i, k, within_test false i)
        (told-replies ts e e.peer (with_gathered s x) (after j (some r) (putting c confirm)) (Putting x.got confirm) (continue_bytes confirm) refl
        (held_after (Putting x.got confirm) (putting c confirm) (with_gathered s x) (put-open confirm)))

  -- a Put packet, where c was carried before
  pub put-packet : (v : Survey) (srm confirm : Bool) (g : Gathered) (c : Record) → PutAgrees (limit_of e) (gatheringOf g s.headers s.body) c
      → length (c.headers ++ (carried_by r.headers).headers) ≤ 65535 → r.opcode ≡ op.Put
      → Told ts (put_packet e r v srm confirm g s) (put_read j r srm (pick srm true confirm) (joined c (carried_by r.headers)))
  unfolding put_packet
  put-packet v srm confirm g c w l o =
      put-told (gathers e keep.Put r.headers g s) (joined c (carried_by r.headers))
      (put-agrees (limit_of e) r.headers (gatheringOf g s.headers s.body) c w l)
      v srm confirm _ _ o refl refl

  -- a Put packet whose kept headers do not fit ends the engine
  put-ends : (v : Survey) (srm confirm : Bool) (g : Gathered) (c : Record) → PutAgrees (limit_of e) (gatheringOf g s.headers s.body) c
      → 65535 < length (c.headers ++ (carried_by r.headers).headers) → (put_packet e r v srm confirm g s).engine.awaits ≡ await.Nothing
  unfolding put_packet engine_with
  put-ends v srm confirm g c w l = rw (put_full (limit_of e) r.headers (gatheringOf g s.headers s.body) c w l) refl

  pub put-follows : (v : Survey) (srm confirm : Bool) (g : Gathered) (c : Record) → PutAgrees (limit_of e) (gatheringOf g s.headers s.body) c
      → r.opcode ≡ op.Put
      → Follows (length (c.headers ++ (carried_by r.headers).headers) ≤ 65535) ts (put_packet e r v srm confirm g s)
      (put_read j r srm (pick srm true confirm) (joined c (carried_by r.headers)))
  put-follows v srm confirm g c w o =
      follows-kept (c.headers ++ (carried_by r.headers).headers) ts _ _ (λ l. put-packet v srm confirm g c w l o) (put-ends v srm confirm g c w)

  -- ---- Get

  get_told : (v : Survey) (srm confirm u : Bool) (x : Gathering) (k : List ℕ) → KeptAgrees (limit_of e) x k → r.final ≡ u
      → Told ts (get_gathered e r v srm confirm x s) (unchanged (after j (some r) (getting k)))
  get_told v srm confirm true x k w i =
      simp (w.full, i)
      (told-done ts e e.peer (Getting x.got srm confirm v.wait) await.Get (outcome.Request (request.Get x.got.kept)) (with_gathered s x)
      (after j (some r) (getting k)) []
      (held_after (Getting x.got srm confirm v.wait) (getting k) (with_gathered s x) (record { keeps = k; is = refl; agrees = w }))
      refl refl)
  get_told v true confirm false x k w i =
      simp (w.full, i)
      (told-wants ts e e.peer (with_gathered s x) (after j (some r) (getting k)) (Getting x.got true confirm v.wait)
      (held_after (Getting x.got true confirm v.wait) (getting k) (with_gathered s x) (record { keeps = k; is = refl; agrees = w })))
  get_told v false confirm false x k w i =
      simp (w.full, i)
      (told-replies ts e e.peer (with_gathered s x) (after j (some r) (getting k)) (Getting x.got confirm false v.wait)
      (continue_bytes confirm) refl
      (held_after (Getting x.got confirm false v.wait) (getting k) (with_gathered s x) (record { keeps = k; is = refl; agrees = w })))

  pub get_packet_lem : (v : Survey) (srm confirm : Bool) (g : Gathered) (k : List ℕ) → KeptAgrees (limit_of e) (gatheringOf g s.headers s.body) k
      → length (k ++ kept_by_get r.headers) ≤ 65535
      → Told ts (get_packet e r v srm confirm g s) (unchanged (after j (some r) (getting (k ++ kept_by_get r.headers))))
  unfolding get_packet
  get_packet_lem v srm confirm g k w l =
      get_told v srm confirm _ (gathers e keep.Get r.headers g s) (k ++ kept_by_get r.headers)
      (get_agrees (limit_of e) r.headers (gatheringOf g s.headers s.body) k w l) refl

  get_ends : (v : Survey) (srm confirm : Bool) (g : Gathered) (k : List ℕ) → KeptAgrees (limit_of e) (gatheringOf g s.headers s.body) k
      → 65535 < length (k ++ kept_by_get r.headers) → (get_packet e r v srm confirm g s).engine.awaits ≡ await.Nothing
  unfolding get_packet engine_with
  get_ends v srm confirm g k w l = rw (get_full (limit_of e) r.headers (gatheringOf g s.headers s.body) k w l) refl

  pub get_follows : (v : Survey) (srm confirm : Bool) (g : Gathered) (k : List ℕ) → KeptAgrees (limit_of e) (gatheringOf g s.headers s.body) k
      → Follows (length (k ++ kept_by_get r.headers) ≤ 65535) ts (get_packet e r v srm confirm g s)
      (unchanged (after j (some r) (getting (k ++ kept_by_get r.headers))))
  get_follows v srm confirm g k w =
      follows-kept (k ++ kept_by_get r.headers) ts _ _ (get_packet_lem v srm confirm g k w) (get_ends v srm confirm g k w)

  -- ---- Action, Session and user-defined operations

  headers-told : (o : Opcode) (u : Bool) (x : Gathering) (k : List ℕ) → KeptAgrees (limit_of e) x k → Plain o → r.opcode ≡ o → r.final ≡ u
      → Told ts (headers_gathered e r o x s) (gather_read j r o k)
  headers-told o true x k w p q i =
      simp (w.full, i)
      (told-done ts e e.peer Nothing await.Reply (outcome.Request (headers_request o x.got.kept)) (with_gathered s x)
      (after j (some r) nothing) []
      (held_after Nothing nothing (with_gathered s x) refl, still_after o nothing q p)
      (headers-request o x.got.kept (with_gathered s x)).1 refl)
  headers-told o false x k w p q i =
      simp (w.full, i)
      (told-replies ts e e.peer (with_gathered s x) (after j (some r) (gathering o k)) (GatheringOp o x.got) (continue_bytes false) refl
      (held_after (GatheringOp o x.got) (gathering o k) (with_gathered s x) (record { keeps = k; is = refl; agrees = w }, p)))

  pub headers-packet : (o : Opcode) (g : Gathered) (k : List ℕ) → KeptAgrees (limit_of e) (gatheringOf g s.headers s.body) k
      → length (k ++ all_bytes r.headers) ≤ 65535 → Plain o → r.opcode ≡ o
      → Told ts (headers_packet e r o g s) (gather_read j r o (k ++ all_bytes r.headers))
  unfolding headers_packet
  headers-packet o g k w l p q =
      headers-told o _ (gathers e keep.All r.headers g s) (k ++ all_bytes r.headers)
      (all-agrees (limit_of e) r.headers (gatheringOf g s.headers s.body) k w l) p q refl

  headers-ends : (o : Opcode) (g : Gathered) (k : List ℕ) → KeptAgrees (limit_of e) (gatheringOf g s.headers s.body) k
      → 65535 < length (k ++ all_bytes r.headers) → (headers_packet e r o g s).engine.awaits ≡ await.Nothing
  unfolding headers_packet engine_with
  headers-ends o g k w l = rw (headers-full (limit_of e) r.headers (gatheringOf g s.headers s.body) k w l) refl

  pub headers-follows : (o : Opcode) (g : Gathered) (k : List ℕ) → KeptAgrees (limit_of e) (gatheringOf g s.headers s.body) k
      → Plain o → r.opcode ≡ o
      → Follows (length (k ++ all_bytes r.headers) ≤ 65535) ts (headers_packet e r o g s) (gather_read j r o (k ++ all_bytes r.headers))
  headers-follows o g k w p q =
      follows-kept (k ++ all_bytes r.headers) ts _ _ (λ l. headers-packet o g k w l p q) (headers-ends o g k w)

-- ---- an object is sent

module _ (ts : List ℕ) (e : Engine) (s : Stores) (j : Journal) (f : Fixed ts e.settings e.peer j) (k : j.begun ≡ [])
    (z : j.opened ≡ sending) where
  -- 0x50 ends it
  pub fails_told : (y : List ℕ) → Told ts (replies_code e e.peer Nothing 0x50 (with_reply s y)) (unchanged j)
  unfolding packet_bytes
  fails_told y =
      told-closes ts e e.peer s j (outcome.Reply (length (packet_bytes (sent_code 0x50) [] [])))
      (front (packet_bytes (sent_code 0x50) [] []) y) refl refl refl f k z

  made_told : (o : Outgoing) (srm wait : Bool) (m : Made) → SendsFrom o s.reply m → (n : Next) → m.packet.next ≡ n
      → Told ts (sends_made e srm wait n m s) (unchanged j)
  made_told o srm wait m w (next.Send n true) i =
      told-closes ts e e.peer s j (outcome.Reply n) m.reply refl refl (ap (λ (b : ℕ). eqb b 0x90) (w.last n i)) f k z
  made_told o srm wait m w (next.Send n false) i =
      told-done ts e e.peer (Sending m.packet.outgoing m.packet.chunk srm wait) await.Taken (outcome.Reply n)
      (with_reply s m.reply) j [] (
        f.ended,
        subst (λ (x : Journal). Held ts e.settings e.peer (Sending m.packet.outgoing m.packet.chunk srm wait)
            (with_reply s m.reply) [] x)
            (sym (ap (λ (u : Opened). taken_at u j (get_or m.reply 0 0)) z ∙ ap (λ (b : ℕ). taken_at sending j b) (w.going n i)))
            (record { fixed = f; begun = k; opened = z }),
      )
      refl
      refl
  made_told o srm wait m w next.Read i =
      told-done ts e e.peer (Sending m.packet.outgoing m.packet.chunk srm wait) await.Body
      (outcome.Request (request.Read m.packet.chunk.room)) (with_reply s m.reply) j []
      (record { fixed = f; begun = k; opened = z }) refl refl
  made_told o srm wait m w next.TooLarge i = fails_told m.reply

  pub sends-told : (o : Outgoing) (srm wait : Bool) (m : Made) → SendsFrom o s.reply m → Told ts (sends_packet e srm wait m s) (unchanged j)
  sends-told o srm wait m w = made_told o srm wait m w m.packet.next refl

  pub next-told : Base e s → (o : Outgoing) (srm wait : Bool) → o.sent ≤ o.total → o.total ≤ 65535
      → Told ts (sends_next e o srm wait s) (unchanged j)
  unfolding sends_next
  next-told h o srm wait k t = sends-told o srm wait (next_packet (capacity_of e) o s.headers s.reply) (next-made e s h o k t)
