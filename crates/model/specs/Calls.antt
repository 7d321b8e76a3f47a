-- The model: what each call does, as a total function of the state, the lent stores and the arguments. The engine's contracts say that the
-- code equals it.
use Rattle.std.specs.Prelude.{ℕ, List, Bool, ◌&&◌, ◌||◌, not, length, take, ltb, eqb}
use Rattle.std.proofs.Math.Option.{Option}
use Rattle.base.specs.Pick.{pick}
use Rattle.digest.specs.declared.md5.Octets16.{Octets16}
use Rattle.packet.specs.HeaderIds as header_id
use Rattle.packet.specs.ResponseCodes as response
use Rattle.packet.specs.Header.{read_headers, first}
use Rattle.journal.specs.Calls.{Credentials}
use Rattle.journal.specs.Journal.{list_of}
use Rattle.incoming.specs.Frame.{Frames, framed}
use Rattle.incoming.specs.declared.frame.Frame.{Frame}
use Rattle.incoming.specs.declared.frame.Frame.TheVariants.{More, Whole, Short}
use Rattle.outgoing.specs.Object.{body_given_of}
use Rattle.table.specs.Targets.{unnamed}
use Rattle.connection.specs.Reply.{front}
use Rattle.connection.specs.Peer.{fresh_peer, Linked, linked, disconnected_peer}
use Rattle.table.specs.Nonces.{remembered_with, remembered, among}
use Rattle.server.specs.declared.Settings.{Settings}
use Rattle.server.specs.declared.Operation.{Operation}
use Rattle.server.specs.declared.Operation.TheVariants.{Nothing, Trailing, Putting, Getting, Sending, Gathering as GatheringOp, Connecting, Draining}
use Rattle.server.specs.declared.Await.TheVariants as await
use Rattle.server.specs.declared.CallKind.TheVariants as kind
use Rattle.server.specs.declared.End.TheVariants as end
use Rattle.server.specs.declared.Refusal.TheVariants as refusal
use Rattle.server.specs.declared.Engine.{Engine}
use Rattle.server.specs.declared.Outcome.TheVariants as outcome
use Rattle.model.specs.Step.{Stores, stores, with_headers, engine_with, done, DoneTabled, done_tabled, ends, replies_code, sends, Stepped, stepped, Called, called, after}
use Rattle.model.specs.Request.{last_headers}
use Rattle.model.specs.Object.{sends_packet, sends_next, goes_on_of, object_of}
use Rattle.model.specs.Connect.{connect_sends, connect_answer, password_answer, nonce_answer}
use Rattle.model.specs.Dispatch.{busy, packet_done}
use Rattle.model.specs.Close.{Closed, refuse_closing, close_checked}
use Rattle.model.specs.Guard.{refuse, short, sound, short_tables, long_realm, same_await, guarded, guarded_tables, guarded_called, bad_headers, bad_reply, checked, long_user}

-- What follows by where the frame stands, with `b` bytes of a packet in the packet store and `n` taken.
abbrev pub framed_as : Frame → Engine → ℕ → ℕ → Stores → List ℕ → Stepped
framed_as More e b n s t =
    after n (done (engine_with e.settings e.peer e.operation e.awaits b e.length e.target) outcome.WantsBytes s)
framed_as Short e b n s t = after n (ends e e.peer end.LengthTooSmall s)
framed_as Whole e b n s t = after n (packet_done e b s t)

-- The stores with another packet store.
abbrev pub with_packet : Stores → List ℕ → Stores
with_packet s p = stores p s.headers s.body s.reply

-- What follows the bytes that were read into the packet store.
abbrev pub offers : Engine → Frames → Stores → List ℕ → Stepped
offers e f s t = framed_as f.result.frame e f.result.begun f.result.taken (with_packet s f.packet) t

-- Bytes from the client. The table store `t` says which ConnectionIDs are open.
unfoldable pub bytes_offered_step : Engine → List ℕ → Stores → List ℕ → Stepped
bytes_offered_step e i s t = guarded_tables kind.FromPeer e s t (offers e (framed s.packet e.begun 0 i) s t)

-- The end of the client's stream, between packets or inside one.
unfoldable pub stream_ended_step : Engine → Stores → Stepped
stream_ended_step e s = guarded kind.FromPeer e s (after 0 (ends e e.peer (pick (eqb e.begun 0) end.Disconnected end.Truncated) s))

-- The host has sent the reply. After the reply to an interrupting packet the engine ends.
unfoldable pub reply_taken_step : Engine → Stores → Stepped
reply_taken_step e s =
    guarded kind.ReplyTaken e s
    (after 0 (pick (same_await e.awaits await.Taken) (goes_on_of e.operation e s) (ends e e.peer end.OtherOperation s)))

-- The engine sends the host's reply, with the peer and the table store that `l` has.
abbrev pub sends_linked : Engine → Linked → ℕ → List ℕ → Stores → DoneTabled
sends_linked e l code hs s = done_tabled (sends e l.peer code hs s) l.tables

-- The host's reply by what it answers: to a Connect it may open an id, a Disconnect closes ids before its reply is made, and to any other
-- request the reply is sent as it is (docs/PROTOCOL.md#connect, #disconnect).
unfoldable pub reply_answer : Engine → ℕ → List ℕ → Stores → List ℕ → DoneTabled
reply_answer e code hs s t =
    pick (same_await e.awaits await.Connect) (connect_answer e code hs s t)
    (pick (same_await e.awaits await.Disconnect)
    (sends_linked e (disconnected_peer e.peer t (first header_id.connection_id (last_headers e s))) code hs s)
    (sends_linked e (linked e.peer t) code hs s))

-- The host's reply; a reply to a Connect or a Disconnect may change which ids are open.
abbrev pub reply_checked : Engine → ℕ → List ℕ → Stores → List ℕ → Called
reply_checked e code hs s t =
    pick (bad_reply code hs) (called (refuse refusal.BadAnswer e s) t)
    (called (after 0 (reply_answer e code hs s t).done) (reply_answer e code hs s t).tables)

-- The reply that the host gives: a code and headers. The table store `t` says which ConnectionIDs are open.
unfoldable pub reply_given_step : Engine → ℕ → List ℕ → Stores → List ℕ → Called
reply_given_step e code hs s t = guarded_called kind.ReplyGiven e s t (reply_checked e code hs s t)

-- The host's object, for the Get that is open.
abbrev pub object_for : Operation → Engine → List ℕ → Bool → Stores → Stepped
object_for (Getting g srm confirm wait) e hs has s =
    checked (bad_headers hs) e s (sends_next e (object_of (length hs) confirm has) (srm || confirm) wait (with_headers s (front hs s.headers)))
object_for Nothing e hs has s = refuse refusal.WrongMoment e s
object_for Trailing e hs has s = refuse refusal.WrongMoment e s
object_for (Putting g srm) e hs has s = refuse refusal.WrongMoment e s
object_for (Sending o c srm wait) e hs has s = refuse refusal.WrongMoment e s
object_for (GatheringOp o g) e hs has s = refuse refusal.WrongMoment e s
object_for (Connecting code f n) e hs has s = refuse refusal.WrongMoment e s
object_for (Draining code) e hs has s = refuse refusal.WrongMoment e s

-- The host's object.
unfoldable pub object_given_step : Engine → List ℕ → Bool → Stores → Stepped
object_given_step e hs has s = guarded kind.ObjectGiven e s (object_for e.operation e hs has s)

-- Bytes of the object's body. More than were asked for are refused.
abbrev pub body_for : Operation → Engine → List ℕ → Stores → Stepped
body_for (Sending o c srm wait) e d s =
    pick (ltb c.room (length d)) (refuse refusal.WrongMoment e s) (after 0 (sends_packet e srm wait (body_given_of o c d s.reply) s))
body_for Nothing e d s = refuse refusal.WrongMoment e s
body_for Trailing e d s = refuse refusal.WrongMoment e s
body_for (Putting g srm) e d s = refuse refusal.WrongMoment e s
body_for (Getting g srm confirm wait) e d s = refuse refusal.WrongMoment e s
body_for (GatheringOp o g) e d s = refuse refusal.WrongMoment e s
body_for (Connecting code f n) e d s = refuse refusal.WrongMoment e s
body_for (Draining code) e d s = refuse refusal.WrongMoment e s

-- Bytes of the object's body.
unfoldable pub body_given_step : Engine → List ℕ → Stores → Stepped
body_given_step e d s = guarded kind.FromBody e s (body_for e.operation e d s)

-- The object's body cannot be read on: the reply is 0x50.
unfoldable pub body_failed_step : Engine → Stores → Stepped
body_failed_step e s = guarded kind.FromBody e s (after 0 (replies_code e e.peer Nothing response.internal_server_error s))

-- The host has heard of an Abort. The reply is success, whatever the host would say.
unfoldable pub abort_acknowledged_step : Engine → Stores → Stepped
abort_acknowledged_step e s = guarded kind.AbortAcknowledged e s (after 0 (replies_code e e.peer Nothing response.success s))

-- The password that the host gives, or none.
unfoldable pub password_given_step : Engine → Option (List ℕ) → Stores → Stepped
password_given_step e p s = guarded kind.PasswordGiven e s (after 0 (password_answer e p s))

-- A nonce is refused if the realm is too long, then if it is one of the last 32 that were taken; otherwise it is taken and remembered
-- (docs/PROTOCOL.md#nonces).
abbrev pub nonce_checked : Engine → Octets16 → List ℕ → Stores → List ℕ → Called
nonce_checked e n l s t =
    pick (long_realm e.settings l) (called (refuse refusal.BadAnswer e s) t)
    (pick (among n (remembered e.peer.nonces t)) (called (refuse refusal.NonceUsed e s) t)
    (called (after 0 (nonce_answer e n l s)) (remembered_with n t)))

-- The nonce that the host gives, and the realm's bytes `l`, which may be others at each nonce.
unfoldable pub nonce_given_step : Engine → Octets16 → List ℕ → Stores → List ℕ → Called
nonce_given_step e n l s t = guarded_called kind.NonceGiven e s t (nonce_checked e n l s t)

-- Credentials for the Connect that waits for them.
abbrev pub credentials_with : Operation → Engine → Option Credentials → Stores → Stepped
credentials_with (Connecting code f n) e c s =
    checked (long_user c) e s (connect_sends e e.peer code f (list_of (read_headers (take n s.headers) 0)) c s)
credentials_with Nothing e c s = refuse refusal.WrongMoment e s
credentials_with Trailing e c s = refuse refusal.WrongMoment e s
credentials_with (Putting g srm) e c s = refuse refusal.WrongMoment e s
credentials_with (Getting g srm confirm wait) e c s = refuse refusal.WrongMoment e s
credentials_with (Sending o k srm wait) e c s = refuse refusal.WrongMoment e s
credentials_with (GatheringOp o g) e c s = refuse refusal.WrongMoment e s
credentials_with (Draining code) e c s = refuse refusal.WrongMoment e s

-- The credentials that the host gives, or none.
unfoldable pub credentials_given_step : Engine → Option Credentials → Stores → Stepped
credentials_given_step e c s = guarded kind.CredentialsGiven e s (credentials_with e.operation e c s)

-- The host closes connections together. It is lent the table store `t` alone. Bytes must be awaited, and no operation may be open.
unfoldable pub connections_closed_step : Engine → List ℕ → List ℕ → Closed
connections_closed_step e l t =
    pick (short_tables t) (refuse_closing refusal.StoreTooShort e t)
    (pick (sound e && (same_await e.awaits await.Bytes && not (busy e.operation))) (close_checked e l t)
    (refuse_closing refusal.WrongMoment e t))

-- A fresh engine.
unfoldable pub started : Settings → Engine
started st = engine_with st fresh_peer Nothing await.Bytes 0 0 unnamed

-- The start. It is refused if a lent store is short, then if the realm is over 254 bytes after its charset; the state has then ended.
unfoldable pub start_step : Settings → List ℕ → Stores → List ℕ → Stepped
start_step st l s t =
    pick (short_tables t || short st.max_object_size s)
    (refuse refusal.StoreTooShort (engine_with st fresh_peer Nothing await.Nothing 0 0 unnamed) s)
    (pick (long_realm st l) (refuse refusal.BadAnswer (engine_with st fresh_peer Nothing await.Nothing 0 0 unnamed) s)
    (stepped (record { engine = started st; taken = 0; outcome = outcome.WantsBytes }) s))
