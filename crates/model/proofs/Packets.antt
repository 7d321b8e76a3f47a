-- A whole packet, by what is open: what the engine makes of it is what the journal does. Assumes nothing.
use mathlib.Core.Path.{◌≡◌, refl, sym, ap, subst}
use mathlib.Core.List.{List, [], ◌++◌}
use mathlib.Core.Bool.{Bool, true, false, true≢false}
use mathlib.Core.Option.{Option, none, some}
use Prim.Native.Nat.{ℕ, ◌≤◌}
use native.Mathlib.Omega.{arith}
use lib.ListN.{length, get_or, take, length-take}
use Rattle.base.specs.Pick.{pick}
use Rattle.packet.specs.FirstByte.{same_opcode, first_byte}
use Rattle.packet.specs.Codes.{sent_code}
use Rattle.packet.specs.Header.{all_bytes}
use Rattle.packet.specs.Packet.{Request as Packet, request_of, packet_bytes}
use Rattle.packet.specs.declared.opcode.Opcode.{Opcode}
use Rattle.packet.specs.declared.opcode.Opcode.TheVariants as op
use Rattle.packet.proofs.OpcodeLaws.{same-equal}
use Rattle.journal.specs.Record.{joined, carried_by, kept_by_get}
use Rattle.journal.specs.Journal.{Opened, nothing, sending, draining, busy as busyOpened, Journal, Entry, unchanged, after, end, ends_with, put_read, dropped, stopped, request_read, packet_read, kept_with, kept_read, trailing, trails as trailsRead, first_read}
use Rattle.incoming.specs.Survey.{survey_of}
use Rattle.incoming.specs.declared.survey.Survey.{Survey}
use Rattle.connection.specs.Reply.{front}
use Rattle.model.specs.Step.{Stores, with_reply, Done, wants, asks, ends, replies_code, limit_of}
use Rattle.model.specs.Operation.{put_packet}
use Rattle.model.specs.Dispatch.{known_in, dispatch, interrupts, trails, trailed, inside, busy, unknown_byte, unreadable, read_as}
use Rattle.model.specs.Guard.{sound_operation}
use Rattle.server.specs.declared.Operation.{Operation}
use Rattle.server.specs.declared.Operation.TheVariants.{Nothing, Trailing, Putting, Getting, Sending, Gathering as GatheringOp, Connecting, Draining}
use Rattle.server.specs.declared.Await.TheVariants as await
use Rattle.server.specs.declared.End.TheVariants as why
use Rattle.server.specs.declared.Engine.{Engine}
use Rattle.server.specs.declared.HostRequest.TheVariants as request
use Rattle.server.specs.declared.Outcome.TheVariants as outcome
use Rattle.incoming.proofs.Frames.{Octets}
use Rattle.packet.proofs.HeaderBytes.{request-headers}
use Rattle.model.proofs.Fit.{Base}
use Rattle.model.proofs.Steps.{outgoing_within}
use Rattle.model.proofs.Coupling.{OpenedAt, Fixed, fixed_kept, Told, Follows, told-follows, quiet, told-done, told-ends, told-wants, told-replies, told-code}
use Rattle.model.proofs.Gathers.{held_after, put-follows, get_follows, headers-follows, next-told}
use Rattle.model.proofs.Dispatch.{dispatch-told}

-- ---- what is open is open for both

pub busy-same : (limit : ℕ) (o : Operation) (h b : List ℕ) (x : Opened) → OpenedAt limit o h b x → busyOpened x ≡ busy o
busy-same limit Nothing h b x w = ap busyOpened w
busy-same limit Trailing h b x w = ap busyOpened w
busy-same limit (Putting g srm) h b x w = ap busyOpened w.is
busy-same limit (Getting g srm confirm wait) h b x w = ap busyOpened w.is
busy-same limit (Sending o c srm wait) h b x w = ap busyOpened w
busy-same limit (GatheringOp o g) h b x w = ap busyOpened w.0.is
busy-same limit (Connecting c f n) h b x w = absurd w
busy-same limit (Draining c) h b x w = ap busyOpened w

-- nothing is sent outside an operation
idle_quiet : (o : Operation) → busy o ≡ false → quiet o ≡ true
idle_quiet Nothing i = refl
idle_quiet Trailing i = refl
idle_quiet (Putting g srm) i = refl
idle_quiet (Getting g srm confirm wait) i = refl
idle_quiet (Sending o c srm wait) i = absurd (true≢false i)
idle_quiet (GatheringOp o g) i = refl
idle_quiet (Connecting c f n) i = refl
idle_quiet (Draining c) i = refl

-- engine and journal tell what trails a Put by the same rule
pub trails-same : (r : Packet) → trails r ≡ trailsRead r
unfolding trails trailsRead
trails-same r = refl

module _ (ts : List ℕ) (e : Engine) (s : Stores) (j : Journal) (f : Fixed ts e.settings e.peer j) (h : Base e s) where
  -- ---- a packet that can be read

  module _ (r : Packet) (last : request_of (take e.length s.packet) ≡ some r) (small : length (all_bytes r.headers) ≤ 65535) where
    abbrev v : Survey
    v = survey_of (some r.headers)

    interrupts-told : Told ts (interrupts e s) (stopped j)
    interrupts-told =
        told-done ts e e.peer Nothing await.Last (outcome.Reply (length (packet_bytes (sent_code 0x40) [] [])))
        (with_reply s (front (packet_bytes (sent_code 0x40) [] []) s.reply)) (end j) [] refl refl refl

    -- of an operation that is open, a packet of its opcode or of another; the premise on kept headers is for the first
    goes_on : (o : Opcode) (d : Done) (y : Entry) (k : List ℕ) → (r.opcode ≡ o → Follows (length k ≤ 65535) ts d y)
        → Follows (length (pick (same_opcode r.opcode o) k []) ≤ 65535) ts
        (pick (same_opcode r.opcode o) d (interrupts e s)) (pick (same_opcode r.opcode o) y (stopped j))
    goes_on o d y k w = go (same_opcode r.opcode o) refl
      where
        go : (t : Bool) → same_opcode r.opcode o ≡ t
            → Follows (length (pick t k []) ≤ 65535) ts (pick t d (interrupts e s)) (pick t y (stopped j))
        go true i = w (same-equal r.opcode o i)
        go false i = told-follows interrupts-told

    srm-stays : (m : Bool) → pick m true false ≡ m
    srm-stays true = refl
    srm-stays false = refl

    drain_told : (code : ℕ) (t : Bool)
        → Told ts (pick t (replies_code e e.peer Nothing code s) (wants e e.peer (Draining code) s))
        (unchanged (after j (some r) (pick t nothing draining)))
    drain_told code true = told-code ts e e.peer s (after j (some r) nothing) code (held_after ts e s j f r Nothing nothing s refl)
    drain_told code false =
        told-wants ts e e.peer s (after j (some r) draining) (Draining code) (held_after ts e s j f r (Draining code) draining s refl)

    refused-told : (t : Bool)
        → Told ts (replies_code e e.peer (pick t Nothing Trailing) 0x4D s) (unchanged (after j (some r) (pick t nothing trailing)))
    refused-told true = told-code ts e e.peer s (after j (some r) nothing) 0x4D (held_after ts e s j f r Nothing nothing s refl)
    refused-told false =
        told-replies ts e e.peer s (after j (some r) trailing) Trailing (packet_bytes (sent_code 0x4D) [] []) refl
        (held_after ts e s j f r Trailing trailing s refl)

    -- what trails a Put that was too long is refused, and any other packet is judged as new
    trails-told : (t : Bool) → same_opcode r.opcode op.Abort ≡ false
        → Told ts (pick t (trailed e r s) (dispatch e r v (known_in e ts v) s))
        (pick t (unchanged (after j (some r) (pick r.final nothing trailing))) (first_read r.opcode j r))
    trails-told true n = refused-told r.final
    trails-told false n = dispatch-told ts e s j f r last h small r.opcode refl n

    -- by what is open, x for the journal
    inside-told : (o : Operation) (x : Opened) → OpenedAt (limit_of e) o s.headers s.body x → sound_operation (limit_of e) o ≡ true
        → same_opcode r.opcode op.Abort ≡ false
        → Follows (length (kept_with x r) ≤ 65535) ts (inside o e r v (known_in e ts v) s) (request_read x j r)
    inside-told Nothing x w c n =
        subst (λ (y : Opened). Follows (length (kept_with y r) ≤ 65535) ts (dispatch e r v (known_in e ts v) s) (request_read y j r)) (sym w)
        (told-follows (dispatch-told ts e s j f r last h small r.opcode refl n))
    inside-told Trailing x w c n =
        subst (λ (y : Opened). Follows (length (kept_with y r) ≤ 65535) ts (inside Trailing e r v (known_in e ts v) s) (request_read y j r)) (sym w)
        (told-follows (rw (trails-same r) (trails-told (trailsRead r) n)))
    inside-told (Putting g srm) x w c n =
        let a = w.carries in
        subst (λ (y : Opened). Follows (length (kept_with y r) ≤ 65535) ts (inside (Putting g srm) e r v (known_in e ts v) s) (request_read y j r))
        (sym w.is)
        (goes_on op.Put _ _ (a.headers ++ (carried_by r.headers).headers)
        (λ i. subst (λ (t : Bool). Follows (length (a.headers ++ (carried_by r.headers).headers) ≤ 65535) ts (put_packet e r v srm false g s)
        (put_read j r srm t (joined a (carried_by r.headers)))) (srm-stays srm)
        (put-follows ts e s j f r v srm false g a w.agrees i)))
    inside-told (Getting g srm confirm wait) x w c n =
        let a = w.keeps in
        subst (λ (y : Opened). Follows (length (kept_with y r) ≤ 65535) ts (inside (Getting g srm confirm wait) e r v (known_in e ts v) s)
        (request_read y j r)) (sym w.is)
        (goes_on op.Get _ _ (a ++ kept_by_get r.headers) (λ i. get_follows ts e s j f r v srm confirm g a w.agrees))
    inside-told (Sending o q srm wait) x w c n =
        let z = outgoing_within o q c in
        subst (λ (y : Opened). Follows (length (kept_with y r) ≤ 65535) ts (inside (Sending o q srm wait) e r v (known_in e ts v) s)
        (request_read y j r)) (sym w)
        (sent_on (goes_on op.Get _ _ []
        (λ i. told-follows (next-told ts e s (after j (some r) sending)
        (fixed_kept f) refl refl h o srm
        v.wait z.sent z.total))))
      where
        nil-short : (t : Bool) → length (pick {A = List ℕ} t [] []) ≤ 65535
        nil-short true = omega arith
        nil-short false = omega arith

        -- of an object that is sent nothing is kept
        sent_on : {d : Done} {y : Entry} → Follows (length (pick {A = List ℕ} (same_opcode r.opcode op.Get) [] []) ≤ 65535) ts d y
            → Follows (length {A = ℕ} [] ≤ 65535) ts d y
        sent_on w = told-follows (w.told (nil-short (same_opcode r.opcode op.Get)))
    inside-told (GatheringOp o g) x w c n =
        let a = w.0.keeps in
        subst (λ (y : Opened). Follows (length (kept_with y r) ≤ 65535) ts (inside (GatheringOp o g) e r v (known_in e ts v) s) (request_read y j r))
        (sym w.0.is)
        (goes_on o _ _ (a ++ all_bytes r.headers) (λ i. headers-follows ts e s j f r o g a w.0.agrees w.1 i))
    inside-told (Connecting q g m) x w c n = absurd w
    inside-told (Draining code) x w c n =
        subst (λ (y : Opened). Follows (length (kept_with y r) ≤ 65535) ts (inside (Draining code) e r v (known_in e ts v) s) (request_read y j r))
        (sym w)
        (told-follows (drain_told code r.final))

  -- ---- any packet

  pub read_told : Octets (take e.length s.packet) → OpenedAt (limit_of e) e.operation s.headers s.body j.opened
      → sound_operation (limit_of e) e.operation ≡ true
      → (q : List ℕ) (x : Option Packet) → request_of (take e.length s.packet) ≡ x
      → Follows (length (kept_read j.opened x) ≤ 65535) ts (read_as x e q s ts) (packet_read x j)
  read_told o w c q none i =
      told-follows
      (subst (λ (t : Bool). Told ts (unreadable e q s) (pick t (ends_with 4 j) (unchanged (after j none j.opened))))
      (sym (busy-same (limit_of e) e.operation s.headers s.body j.opened w))
      (go (busy e.operation) refl))
    where
      go : (t : Bool) → busy e.operation ≡ t
          → Told ts (pick t (ends e e.peer why.Unreadable s)
          (replies_code e e.peer e.operation (pick (unknown_byte (first_byte (get_or q 0 0))) 0x51 0x40) s))
          (pick t (ends_with 4 j) (unchanged (after j none j.opened)))
      go true m = told-ends ts e e.peer s (end j) why.Unreadable
      go false m =
          told-replies ts e e.peer s (after j none j.opened) e.operation
          (packet_bytes (sent_code (pick (unknown_byte (first_byte (get_or q 0 0))) 0x51 0x40)) [] []) (idle_quiet e.operation m)
          (record { fixed = fixed_kept f; begun = refl; opened = w })
  read_told o w c q (some r) i = go (same_opcode r.opcode op.Abort) refl
    where
      short : length (all_bytes r.headers) ≤ 65535
      short = omega (arith, request-headers (take e.length s.packet) r o i, length-take e.length s.packet, h.last)

      go : (t : Bool) → same_opcode r.opcode op.Abort ≡ t
          → Follows (length (kept_with j.opened r) ≤ 65535) ts
          (pick t (asks e e.peer Nothing await.Acknowledgement (request.Abort e.length) s)
          (inside e.operation e r (survey_of (some r.headers)) (known_in e ts (survey_of (some r.headers))) s))
          (pick t (dropped j r) (request_read j.opened j r))
      go true m =
          told-follows
          (told-done ts e e.peer Nothing await.Acknowledgement (outcome.Request (request.Abort e.length)) s (after j (some r) nothing) []
          (held_after ts e s j f r Nothing nothing s refl) refl refl)
      go false m = inside-told r i short e.operation j.opened w c m
