-- What every call of the client keeps: an operation is awaited only where none is open, a packet waits only where the word that it was sent is
-- awaited, and after its end the client awaits nothing. Assumes nothing.
use mathlib.Core.Path.{◌≡◌, refl, sym, subst, ◌∙◌}
use mathlib.Core.List.{List, [], ◌∷◌, ◌++◌}
use mathlib.Core.Bool.{Bool, true, false, ◌&&◌, ◌||◌, not, true≢false, false≢true}
use mathlib.Core.Option.{Option, none, some}
use Prim.Native.Nat.{ℕ, ◌+◌}
use lib.ListN.{length, take, drop}
use lib.Seq.{paste}
use lib.Dec.{ltb, eqb}
use Rattle.base.specs.Pick.{pick}
use Rattle.packet.specs.Codes.{is_success}
use Rattle.packet.specs.HeaderIds as header_id
use Rattle.packet.specs.Header.{first}
use Rattle.packet.specs.FirstByte.{byte_of}
use Rattle.packet.specs.Packet.{connect_limit, packet_bytes}
use Rattle.packet.specs.declared.opcode.Opcode.TheVariants as op
use Rattle.packet.specs.ResponsePacket.{ResponsePacket, response_packet}
use Rattle.journal.specs.Calls.{Call}
use Rattle.incoming.specs.Frame.{framed}
use Rattle.incoming.specs.Gather.{Gathering}
use Rattle.incoming.specs.declared.frame.Frame.{Frame}
use Rattle.incoming.specs.declared.frame.Frame.TheVariants.{More, Whole, Short}
use Rattle.outgoing.specs.Object.{Made, next_after, body_given_of}
use Rattle.outgoing.specs.declared.object.Outgoing.{Outgoing}
use Rattle.outgoing.specs.declared.object.Next.{Next}
use Rattle.outgoing.specs.declared.object.Next.TheVariants as next
use Rattle.connection.specs.Peer.{at_least255, id_in}
use Rattle.connection.specs.Reply.{fields_of, front}
use Rattle.server.specs.declared.Outcome.{Outcome as ServerOutcome}
use Rattle.server.specs.declared.Outcome.TheVariants as told
use Rattle.client_model.specs.Leading.{leading}
use Rattle.client_model.specs.Step.{Stores, stores, capacity_of, with_packet, with_request, client_with, goes, begun_with, arrived, Done, done, wants, sends, over, ends, Stepped, after}
use Rattle.client_model.specs.Request.{requests_by, requests, requests_next, request_of, requests_first, id_bytes, sends_abort}
use Rattle.client_model.specs.Answer.{is_continue, gathers, parts, received_last, received, continued, request_answered, responded, is_connecting, read_as, response_done}
use Rattle.client_model.specs.Guard.{short, sound, awaiting, guarded, bad_headers, too_long_of, checked, abort_fits}
use Rattle.client_model.specs.Calls.{connect_step, disconnect_step, request_step, sent_for, request_sent_step, body_for, body_given_step, taken_for, part_taken_step, abort_taken, abort_for, abort_step, framed_as, offers, bytes_offered_step, stream_ended_step}
use Rattle.client_model.specs.declared.Kind.{Kind}
use Rattle.client_model.specs.declared.Kind.TheVariants as kind
use Rattle.client_model.specs.declared.Operation.{Operation}
use Rattle.client_model.specs.declared.Operation.TheVariants.{Nothing, Connecting, Disconnecting, Requesting, Receiving, Aborting}
use Rattle.client_model.specs.declared.Await.{Await}
use Rattle.client_model.specs.declared.Await.TheVariants as await
use Rattle.client_model.specs.declared.Client.{Client}
use Rattle.client_model.specs.declared.End.{End}
use Rattle.client_model.specs.declared.End.TheVariants as end
use Rattle.client_model.specs.declared.Outcome.{Outcome}
use Rattle.client_model.specs.declared.Outcome.TheVariants as said
use Rattle.link.specs.Link.{Link, UserCall, connect, get, disconnect, put, body, abort, partTaken, Move, user, host, sendUp, sendDown, offerUp, offerDown, closeUp, closeDown, said_after, client_did, user_step, reply_bytes, server_call, call_after, up_after, close_after, move}
use Rattle.link.specs.Told.{is_refused}
use Rattle.link.proofs.Moves.{is_send, is_end}

-- ---- what is kept

-- what the client awaits fits what it said last
pub record Tidy (c : Client) (o : Outcome) : Type 0 where
  pub call : awaiting c await.Call ≡ true → c.operation ≡ Nothing
  pub sent : is_send o ≡ true → c.awaits ≡ await.Sent
  pub end : is_end o ≡ true → c.awaits ≡ await.Nothing

-- of a step that is not refused
record Neat (c : Client) (d : Done) : Type 0 where
  tidy : Tidy d.client d.outcome
  goes_on : is_refused d.outcome ≡ false

neat_pick : (c : Client) (b : Bool) (x y : Done) → Neat c x → Neat c y → Neat c (pick b x y)
neat_pick c true x y p q = p
neat_pick c false x y p q = q

module _ (c : Client) where
  neat_as : (o : Operation) (a : Await) (b : Bool) (x : Outcome) (s : Stores) → (awaiting (goes c o a b) await.Call ≡ true → o ≡ Nothing)
      → (is_send x ≡ true → a ≡ await.Sent) → (is_end x ≡ true → a ≡ await.Nothing) → is_refused x ≡ false → Neat c (done (goes c o a b) x s)
  unfolding client_with
  neat_as o a b x s p q r n = record { tidy = record { call = p; sent = q; end = r }; goes_on = n }

  neat_wants : (o : Operation) (b : Bool) (s : Stores) → Neat c (wants c o b s)
  unfolding client_with
  neat_wants o b s = neat_as o await.Bytes b said.WantsBytes s (λ e. absurd (false≢true e)) (λ e. absurd (false≢true e))
      (λ e. absurd (false≢true e)) refl

  neat_send : (o : Operation) (n : ℕ) (s : Stores) → Neat c (done (goes c o await.Sent false) (said.Send n) s)
  unfolding client_with
  neat_send o n s = neat_as o await.Sent false (said.Send n) s (λ e. absurd (false≢true e)) (λ e. refl) (λ e. absurd (false≢true e)) refl

  neat_read : (o : Operation) (n : ℕ) (s : Stores) → Neat c (done (goes c o await.Body false) (said.Read n) s)
  unfolding client_with
  neat_read o n s = neat_as o await.Body false (said.Read n) s (λ e. absurd (false≢true e)) (λ e. absurd (false≢true e))
      (λ e. absurd (false≢true e)) refl

  neat_ends : (x : End) (s : Stores) → Neat c (ends c x s)
  unfolding client_with
  neat_ends x s = neat_as Nothing await.Nothing false (said.End x) s (λ e. absurd (false≢true e)) (λ e. absurd (false≢true e)) (λ e. refl) refl

  neat_over : (x : Outcome) (s : Stores) → is_send x ≡ false → is_end x ≡ false → is_refused x ≡ false → Neat c (over c x s)
  neat_over x s p q n = neat_as Nothing await.Call false x s (λ e. refl) (λ e. absurd (false≢true (sym p ∙ e)))
      (λ e. absurd (false≢true (sym q ∙ e))) n

  neat_parts : (srm last : Bool) (code : ℕ) (g : Gathering) (s : Stores) → Neat c (parts c srm last code g s)
  unfolding client_with
  neat_parts srm last code g s =
      neat_as (Receiving srm last code) await.Taken false _ _ (λ e. absurd (false≢true e)) (λ e. absurd (false≢true e))
      (λ e. absurd (false≢true e)) refl

  -- ---- requests

  neat_by : (n : Next) (k : Kind) (srm first : Bool) (m : Made) (s : Stores) → Neat c (requests_by n c k srm first m s)
  neat_by (next.Send n last) k srm first m s = neat_send _ n _
  neat_by next.Read k srm first m s = neat_read _ m.packet.chunk.room _
  neat_by next.TooLarge k srm first m s = neat_ends end.HeadersChanged _

  neat_next : (k : Kind) (srm first : Bool) (o : Outgoing) (s : Stores) → Neat c (requests_next c k srm first o s)
  unfolding requests_next
  neat_next k srm first o s = let m = next_after 3 (capacity_of c) o s.headers s.request in neat_by m.packet.next k srm first m s

  neat_first : (k : Kind) (hs : List ℕ) (has : Bool) (s : Stores) → Neat c (requests_first c k hs has s)
  unfolding requests_first
  neat_first k hs has s =
      let lead = leading c.connection_id c.settings.srm_wanted in
      let t = stores s.packet (front hs s.headers) s.body (paste s.request 3 lead (length lead)) in
      let m = next_after (3 + length lead) (capacity_of c) (request_of (length hs) has) t.headers t.request in
      neat_by m.packet.next k false true m t

  neat_abort : (s : Stores) → Neat c (sends_abort c s)
  unfolding sends_abort
  neat_abort s = neat_send Aborting _ _

  neat_sent : (o : Operation) (s : Stores) → Neat c (sent_for o c s)
  neat_sent Nothing s = neat_wants _ false s
  neat_sent Connecting s = neat_wants _ false s
  neat_sent Disconnecting s = neat_wants _ false s
  neat_sent (Requesting k o h srm first last) s = neat_pick c (srm && not last) _ _ (neat_next k srm first o s) (neat_wants _ false s)
  neat_sent (Receiving srm last code) s = neat_wants _ false s
  neat_sent Aborting s = neat_wants _ false s

  neat_taken_abort : (o : Operation) (s : Stores) → Neat c (abort_taken o c s)
  neat_taken_abort (Receiving true last code) s = neat_wants _ true s
  neat_taken_abort (Receiving false last code) s = neat_abort s
  neat_taken_abort Nothing s = neat_abort s
  neat_taken_abort Connecting s = neat_abort s
  neat_taken_abort Disconnecting s = neat_abort s
  neat_taken_abort (Requesting k o h srm first last) s = neat_abort s
  neat_taken_abort Aborting s = neat_abort s

  neat_abort_for : (a : Await) (s : Stores) → Neat c (abort_for a c s)
  unfolding client_with
  neat_abort_for await.Bytes s =
      record {
        tidy = record { call = λ e. absurd (false≢true e); sent = λ e. absurd (false≢true e); end = λ e. absurd (false≢true e) };
        goes_on = refl;
      }
  neat_abort_for await.Taken s = neat_taken_abort c.operation s
  neat_abort_for await.Call s = neat_abort s
  neat_abort_for await.Sent s = neat_abort s
  neat_abort_for await.Body s = neat_abort s
  neat_abort_for await.Nothing s = neat_abort s

  -- ---- responses

  neat_ended : (b : Bool) (r : ResponsePacket) (s : Stores)
      → Neat c (over c (pick b (said.Aborted r.code c.length) (said.Done r.code c.length)) s)
  neat_ended true r s = neat_over (said.Aborted r.code c.length) s refl refl refl
  neat_ended false r s = neat_over (said.Done r.code c.length) s refl refl refl

  neat_last : (srm : Bool) (r : ResponsePacket) (s : Stores) → Neat c (received_last c srm r s)
  neat_last srm r s = neat_pick c (not (is_success r.code) || c.aborting) _ _ (neat_ended c.aborting r s)
      (neat_parts srm true r.code (gathers r s) s)

  neat_received : (srm : Bool) (r : ResponsePacket) (s : Stores) → Neat c (received c srm r s)
  unfolding received
  neat_received srm r s =
      neat_pick c (is_continue r) _ _
      (neat_pick c c.aborting _ _ (neat_pick c srm _ _ (neat_wants (Receiving true false 0) true s) (neat_abort s))
      (neat_parts srm false r.code (gathers r s) s))
      (neat_last srm r s)

  neat_continued : (k : Kind) (o : Outgoing) (srm initial : Bool) (r : ResponsePacket) (s : Stores) → Neat c (continued k c o srm initial r s)
  neat_continued k o srm initial r s = neat_pick c c.aborting _ _ (neat_abort s) (neat_next k _ false o s)

  neat_answered : (k : Kind) (o : Outgoing) (srm initial last : Bool) (r : ResponsePacket) (s : Stores)
      → Neat c (request_answered k c o srm initial last r s)
  neat_answered kind.Put o srm initial true r s = neat_over (said.Done r.code c.length) s refl refl refl
  neat_answered kind.Put o srm initial false r s =
      neat_pick c (is_continue r) _ _ (neat_continued kind.Put o srm initial r s) (neat_over (said.Stopped r.code c.length) s refl refl refl)
  neat_answered kind.Get o srm initial true r s = neat_received _ r s
  neat_answered kind.Get o srm initial false r s = neat_pick c (is_continue r) _ _ (neat_continued kind.Get o srm initial r s) (neat_last srm r s)

-- what a response does to the client that it has come to
neat_responded : (c : Client) (o : Operation) → c.operation ≡ o → (r : ResponsePacket) (s : Stores) → Neat c (responded o c r s)
unfolding client_with
neat_responded c Connecting e r s = go (is_success r.code)
  where
    go : (b : Bool)
        → Neat c (done (pick b (client_with c.settings (at_least255 (connect_limit r.bytes))
        (id_in (first header_id.connection_id r.headers)) Nothing await.Call false 0 c.length)
        (goes c Nothing await.Call false)) (said.Done r.code c.length) s)
    go true =
        record {
          tidy = record { call = λ i. refl; sent = λ i. absurd (false≢true i); end = λ i. absurd (false≢true i) };
          goes_on = refl;
        }
    go false = neat_over c (said.Done r.code c.length) s refl refl refl
neat_responded c Disconnecting e r s =
    record {
      tidy = record { call = λ i. refl; sent = λ i. absurd (false≢true i); end = λ i. absurd (false≢true i) };
      goes_on = refl;
    }
neat_responded c (Requesting k o h srm initial last) e r s = neat_answered c k o srm initial last r s
neat_responded c (Receiving srm last code) e r s = neat_received c srm r s
neat_responded c Aborting e r s = neat_over c (said.Aborted r.code c.length) s refl refl refl
neat_responded c Nothing e r s = neat_ends c end.Unreadable s

neat_read_as : (c : Client) (n : ℕ) (x : Option ResponsePacket) (s : Stores) → Neat (arrived c n) (read_as x (arrived c n) s)
neat_read_as c n none s = neat_ends (arrived c n) end.Unreadable s
neat_read_as c n (some r) s = neat_responded (arrived c n) (arrived c n).operation refl r s

-- the same of the client before the response
neat_response : (c : Client) (n : ℕ) (s : Stores) → Neat c (response_done c n s)
unfolding response_done client_with
neat_response c n s =
    let w = neat_read_as c n (response_packet (is_connecting c.operation) (take n s.packet)) s in
    record { tidy = w.tidy; goes_on = w.goes_on }

-- ---- a call

-- what the client awaits after a call fits what it said last, if it had said `o` before
abbrev KeptBy : Outcome → Stepped → Type 0
KeptBy o m = Tidy m.took.client (said_after o m.took.outcome)

said_goes : (o x : Outcome) → is_refused x ≡ false → said_after o x ≡ x
said_goes o (said.Refused r) e = absurd (true≢false e)
said_goes o said.Ready e = refl
said_goes o (said.Send n) e = refl
said_goes o said.WantsBytes e = refl
said_goes o (said.Read n) e = refl
said_goes o (said.Part k b) e = refl
said_goes o (said.Done c n) e = refl
said_goes o (said.Stopped c n) e = refl
said_goes o (said.Aborted c n) e = refl
said_goes o (said.End x) e = refl

module _ (c : Client) (o : Outcome) (w : Tidy c o) (s : Stores) where
  still : Tidy c o
  still = w

  by_step : (n : ℕ) (d : Done) → Neat c d → KeptBy o (after n d)
  by_step n d h =
      subst (Tidy d.client) (sym (said_goes o d.outcome h.goes_on)) h.tidy

  by_pick : (b : Bool) (x y : Stepped) → KeptBy o x → KeptBy o y → KeptBy o (pick b x y)
  by_pick true x y p q = p
  by_pick false x y p q = q

  by_guard : (f : Bool) (m : Stepped) → KeptBy o m → KeptBy o (guarded f c s m)
  by_guard f m h = by_pick (short s) _ _ still (by_pick (sound c && f) _ _ h still)

  by_check : (a b : Bool) (d : Done) → Neat c d → KeptBy o (checked a b c s d)
  by_check a b d h = by_pick a _ _ still (by_pick b _ _ still (by_step 0 d h))

  body_kept : (p : Operation) (d : List ℕ) → KeptBy o (body_for p c d s)
  body_kept (Requesting k x h srm first last) d =
      let m = body_given_of x h d s.request in
      by_pick (ltb h.room (length d)) _ _ still (by_step 0 (requests c k srm first m s) (neat_by c m.packet.next k srm first m s))
  body_kept Nothing d = still
  body_kept Connecting d = still
  body_kept Disconnecting d = still
  body_kept (Receiving srm last code) d = still
  body_kept Aborting d = still

  taken-kept : (p : Operation) → KeptBy o (taken_for p c s)
  taken-kept (Receiving srm true code) = by_step 0 _ (neat_over c (said.Done code c.length) s refl refl refl)
  taken-kept (Receiving true false code) = by_step 0 _ (neat_wants c c.operation false s)
  taken-kept (Receiving false false code) = let q = packet_bytes (byte_of op.Get true) [] [] in by_step 0 (sends c c.operation q s)
      (neat_send c c.operation (length q) (with_request s (front q s.request)))
  taken-kept Nothing = still
  taken-kept Connecting = still
  taken-kept Disconnecting = still
  taken-kept (Requesting k x h srm first last) = still
  taken-kept Aborting = still

  connect_kept : (hs : List ℕ) → KeptBy o (connect_step c hs s)
  unfolding connect_step
  connect_kept hs =
      let q = packet_bytes (byte_of op.Connect true) (fields_of c.settings.max_packet_length) hs in
      let d = sends c Connecting q s in
      by_guard (awaiting c await.Call) (checked (bad_headers hs) (ltb 248 (length hs)) c s d)
      (by_check (bad_headers hs) (ltb 248 (length hs)) d (neat_send c Connecting (length q) (with_request s (front q s.request))))

  disconnect_kept : (hs : List ℕ) → KeptBy o (disconnect_step c hs s)
  unfolding disconnect_step
  disconnect_kept hs =
      let x = id_bytes c.connection_id ++ hs in
      let q = packet_bytes (byte_of op.Disconnect true) [] x in
      let d = sends c Disconnecting q s in
      by_guard (awaiting c await.Call) (checked (bad_headers hs) (ltb 248 (length x)) c s d)
      (by_check (bad_headers hs) (ltb 248 (length x)) d (neat_send c Disconnecting (length q) (with_request s (front q s.request))))

  request-kept : (k : Kind) (hs : List ℕ) (has : Bool) → KeptBy o (request_step c k hs has s)
  unfolding request_step
  request-kept k hs has =
      let d = requests_first c k hs has s in
      by_guard (awaiting c await.Call) (checked (bad_headers hs) (too_long_of (capacity_of c) hs) c s d)
      (by_check (bad_headers hs) (too_long_of (capacity_of c) hs) d (neat_first c k hs has s))

  given-kept : (d : List ℕ) → KeptBy o (body_given_step c d s)
  unfolding body_given_step
  given-kept d = by_guard (awaiting c await.Body) (body_for c.operation c d s) (body_kept c.operation d)

  abort_kept : KeptBy o (abort_step c s)
  unfolding abort_step
  abort_kept = let d = abort_for c.awaits c s in by_guard (abort_fits c) (after 0 d) (by_step 0 d (neat_abort_for c c.awaits s))

  part-kept : KeptBy o (part_taken_step c s)
  unfolding part_taken_step
  part-kept = by_guard (awaiting c await.Taken) (taken_for c.operation c s) (taken-kept c.operation)

  sent-kept : KeptBy o (request_sent_step c s)
  unfolding request_sent_step
  sent-kept = let d = sent_for c.operation c s in by_guard (awaiting c await.Sent) (after 0 d) (by_step 0 d (neat_sent c c.operation s))

  -- some bytes of a response keep what is awaited
  begun_kept : (n b : ℕ) (t : Stores) → KeptBy o (after n (done (begun_with c b) said.WantsBytes t))
  unfolding client_with
  begun_kept n b t = record { call = w.call; sent = λ e. absurd (false≢true e); end = λ e. absurd (false≢true e) }

  framed_kept : (f : Frame) (b n : ℕ) (t : Stores) → KeptBy o (framed_as f c b n t)
  framed_kept More b n t = begun_kept n b t
  framed_kept Short b n t = by_step n (ends c end.LengthTooSmall t) (neat_ends c end.LengthTooSmall t)
  framed_kept Whole b n t = by_step n (response_done c b t) (neat_response c b t)

  bytes-kept : (i : List ℕ) → KeptBy o (bytes_offered_step c i s)
  unfolding bytes_offered_step
  bytes-kept i =
      let f = framed s.packet c.begun 0 i in
      by_guard (awaiting c await.Bytes) (offers c f s)
      (framed_kept f.result.frame f.result.begun f.result.taken (with_packet s f.packet))

  end_kept : KeptBy o (stream_ended_step c s)
  unfolding stream_ended_step
  end_kept =
      let x = pick (eqb c.begun 0) end.Disconnected end.Truncated in
      by_guard (awaiting c await.Bytes || awaiting c await.Call) (after 0 (ends c x s)) (by_step 0 (ends c x s) (neat_ends c x s))

-- ---- a move

-- what the client awaits fits what it said last
abbrev pub IsTidy : Link → Type 0
IsTidy l = Tidy l.client l.said

pub tidy_moved : (l : Link) → IsTidy l → (m : Move) → IsTidy (move l m)
unfolding move
tidy_moved l w m = by m
  where
    did : (m : Stepped) (up down : List ℕ) → KeptBy l.said m → IsTidy (client_did l m up down)
    did m up down h = h

    same : IsTidy l
    same = w

    called : (c : Option Call) (down : List ℕ) → IsTidy (call_after c l down)
    called none down = same
    called (some c) down = w

    sent : (o : Outcome) → IsTidy (up_after o l)
    sent (said.Send n) = did (request_sent_step l.client l.stores) (l.up ++ take n l.stores.request) l.down
        (sent-kept l.client l.said w l.stores)
    sent said.Ready = same
    sent said.WantsBytes = same
    sent (said.Read n) = same
    sent (said.Part k b) = same
    sent (said.Done c n) = same
    sent (said.Stopped c n) = same
    sent (said.Aborted c n) = same
    sent (said.End x) = same
    sent (said.Refused r) = same

    closed : (o : ServerOutcome) (down : List ℕ) → IsTidy (close_after o down l)
    closed (told.End x) [] = did (stream_ended_step l.client l.stores) l.up l.down (end_kept l.client l.said w l.stores)
    closed (told.End x) (b ∷ down) = same
    closed told.WantsBytes down = same
    closed (told.Reply n) down = same
    closed (told.Request r) down = same
    closed (told.Refused r) down = same

    called_by_lem : (u : UserCall) → KeptBy l.said (user_step l u)
    called_by_lem (connect hs) = connect_kept l.client l.said w l.stores hs
    called_by_lem (get hs) = request-kept l.client l.said w l.stores kind.Get hs false
    called_by_lem (disconnect hs) = disconnect_kept l.client l.said w l.stores hs
    called_by_lem (put hs has) = request-kept l.client l.said w l.stores kind.Put hs has
    called_by_lem (body d) = given-kept l.client l.said w l.stores d
    called_by_lem abort = abort_kept l.client l.said w l.stores
    called_by_lem partTaken = part-kept l.client l.said w l.stores

    by : (m : Move) → IsTidy (move l m)
    by (user u) = did (user_step l u) l.up l.down (called_by_lem u)
    by (host c) = called (server_call l (host c)) l.down
    by sendUp = sent l.said
    by sendDown = called (server_call l sendDown) (l.down ++ reply_bytes l.told l.server.stores.reply)
    by (offerUp n) = called (server_call l (offerUp n)) l.down
    by (offerDown n) = let i = bytes_offered_step l.client (take n l.down) l.stores in did i l.up (drop i.took.taken l.down)
        (bytes-kept l.client l.said w l.stores (take n l.down))
    by closeUp = called (server_call l closeUp) l.down
    by closeDown = closed l.told l.down
