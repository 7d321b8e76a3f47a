-- How the client's state and the result of a call stand in the 32 numbers that a user outside Rattle keeps (bindings/c/obex_client.h names their
-- places). `result_of` reads the numbers: every list is read as some state, a kind that nothing has as the last kind, and a field keeps the bits
-- that its type has. `words_of` is what a call leaves, all 32 of them. `start_on` is the start, which refuses numbers that are no settings.
use Rattle.std.specs.Prelude.{ℕ, ◌%◌, ◌^◌, List, [], ◌∷◌, Bool, true, false, ◌&&◌, ◌||◌, not, get_or, eqb, ltb, Some, None}
use Rattle.incoming.specs.Gather.{Body}
use Rattle.base.specs.Pick.{pick}
use Rattle.packet.specs.Limits.{min_packet}
use Rattle.outgoing.specs.declared.object.Outgoing.{Outgoing}
use Rattle.outgoing.specs.declared.object.Chunk.{Chunk}
use Rattle.connection.specs.Peer.{ConnectionId}
use Rattle.client_model.specs.declared.Settings.{Settings}
use Rattle.client_model.specs.declared.Kind.{Kind}
use Rattle.client_model.specs.declared.Kind.TheVariants as kind_of
use Rattle.client_model.specs.declared.Operation.{Operation}
use Rattle.client_model.specs.declared.Operation.TheVariants as operation
use Rattle.client_model.specs.declared.Await.{Await}
use Rattle.client_model.specs.declared.Await.TheVariants as await
use Rattle.client_model.specs.declared.Client.{Client}
use Rattle.client_model.specs.declared.End.{End}
use Rattle.client_model.specs.declared.End.TheVariants as end
use Rattle.client_model.specs.declared.Refusal.{Refusal}
use Rattle.client_model.specs.declared.Refusal.TheVariants as refusal
use Rattle.client_model.specs.declared.Outcome.{Outcome}
use Rattle.client_model.specs.declared.Outcome.TheVariants as outcome
use Rattle.client_model.specs.declared.CallResult.{CallResult}
use Rattle.client_model.specs.Numbers.{end_number, refusal_number, await_number}
use Rattle.client_model.specs.Step.{Stores, Stepped, client_with}
use Rattle.client_model.specs.Guard.{short, refuse}
use Rattle.client_model.specs.Calls.{start_step}
use Rattle.client_c.specs.declared.words.Numbers.{Numbers}
use Rattle.client_c.specs.declared.words.Four.{Four}

-- The version of the layout below. It is raised with each change of a place or a kind. A start asks for it.
abbrev pub version : ℕ
version = 1

-- The number at a place.
abbrev pub at : List ℕ → ℕ → ℕ
at w i = get_or w i 0

-- A flag is set if its number is 1.
abbrev pub flag : ℕ → Bool
flag n = eqb n 1

-- The number of a flag.
abbrev pub flag_number : Bool → ℕ
flag_number true = 1
flag_number false = 0

-- A kind and up to three numbers.
abbrev pub four : ℕ → ℕ → ℕ → ℕ → Four
four kind a b c = record { kind = kind; a = a; b = b; c = c }

-- A kind and up to three numbers, as an operation's numbers.
abbrev pub numbers : ℕ → ℕ → ℕ → ℕ → Numbers
numbers kind a b c =
    record { kind = kind; a = a; b = b; c = c; d = 0; e = 0; f = 0; g = 0; h = 0; i = 0; j = 0; k = 0; l = 0 }

-- ---- the settings: numbers 0 and 1, and 2 for the version of the layout

-- The settings in the user's numbers.
abbrev pub settings_in : List ℕ → Settings
settings_in w = record { max_packet_length = at w 0 % 2 ^ 16; srm_wanted = flag (at w 1) }

-- Whether the user's numbers are settings: a limit of 16 bits, a flag that is 0 or 1, and the version of this layout.
unfoldable pub settings_fit : List ℕ → Bool
settings_fit w = ltb (at w 0) (2 ^ 16) && (ltb (at w 1) 2 && eqb (at w 2) version)

-- ---- the ConnectionID: numbers 5 and 6

-- The ConnectionID `x` if `n` is 1, else none.
abbrev pub id_from : ℕ → ℕ → ConnectionId
id_from n x = pick (eqb n 1) (Some (x % 2 ^ 32)) None

-- The numbers of a ConnectionID.
abbrev pub id_numbers : ConnectionId → Four
id_numbers (Some x) = four 1 x 0 0
id_numbers None = four 0 0 0 0

-- ---- the open operation: numbers 7 to 19

-- The packets that are still to be sent: header bytes, how many of them went out, three flags, and the byte `x` that was read ahead.
abbrev pub outgoing_of : ℕ → ℕ → ℕ → ℕ → ℕ → ℕ → Outgoing
outgoing_of total sent lead has pending x =
    record { total = total; sent = sent; lead = flag lead; has_body = flag has; has_pending = flag pending; pending = x % 2 ^ 8 }

-- A chunk of a body: where its header starts, how many of its bytes stand there, and how many more the user is asked for.
abbrev pub chunk_of : ℕ → ℕ → ℕ → Chunk
chunk_of place got room = record { at = place; got = got; room = room }

-- A request that goes out.
abbrev pub requesting_of : Kind → Numbers → Operation
requesting_of k n =
    operation.Requesting k (outgoing_of n.a n.b n.c n.d n.e n.f) (chunk_of n.g n.h n.i) (flag n.j)
    (flag n.k) (flag n.l)

-- The operation, by its kind. Kind 0 and any kind over 6 are nothing.
unfoldable pub operation_of : Numbers → Operation
operation_of n =
    pick (eqb n.kind 1) operation.Connecting
    (pick (eqb n.kind 2) operation.Disconnecting
    (pick (eqb n.kind 3) (requesting_of kind_of.Put n)
    (pick (eqb n.kind 4) (requesting_of kind_of.Get n)
    (pick (eqb n.kind 5) (operation.Receiving (flag n.a) (flag n.b) (n.c % 2 ^ 8))
    (pick (eqb n.kind 6) operation.Aborting operation.Nothing)))))

-- The kind of a request that goes out.
abbrev pub request_kind : Kind → ℕ
request_kind kind_of.Put = 3
request_kind kind_of.Get = 4

-- The numbers of a request that goes out: its kind, the packets still to be sent, the chunk, and the numbers of three flags.
abbrev pub requesting_numbers : ℕ → Outgoing → Chunk → ℕ → ℕ → ℕ → Numbers
requesting_numbers kind o c srm first last =
    record {
      kind = kind;
      a = o.total;
      b = o.sent;
      c = flag_number o.lead;
      d = flag_number o.has_body;
      e = flag_number o.has_pending;
      f = o.pending;
      g = c.at;
      h = c.got;
      i = c.room;
      j = srm;
      k = first;
      l = last;
    }

-- The numbers of an operation.
abbrev pub operation_numbers : Operation → Numbers
operation_numbers operation.Nothing = numbers 0 0 0 0
operation_numbers operation.Connecting = numbers 1 0 0 0
operation_numbers operation.Disconnecting = numbers 2 0 0 0
operation_numbers (operation.Requesting k o c srm first last) =
    requesting_numbers (request_kind k) o c (flag_number srm) (flag_number first) (flag_number last)
operation_numbers (operation.Receiving srm last code) = numbers 5 (flag_number srm) (flag_number last) code
operation_numbers operation.Aborting = numbers 6 0 0 0

-- The operation's kind and values in the user's numbers.
abbrev pub operation_in : List ℕ → Numbers
operation_in w =
    record {
      kind = at w 7;
      a = at w 8;
      b = at w 9;
      c = at w 10;
      d = at w 11;
      e = at w 12;
      f = at w 13;
      g = at w 14;
      h = at w 15;
      i = at w 16;
      j = at w 17;
      k = at w 18;
      l = at w 19;
    }

-- ---- the state: numbers 0 to 23

-- What is awaited, by its number; any number over 4 is nothing.
unfoldable pub await_of : ℕ → Await
await_of n =
    pick (eqb n 0) await.Bytes
    (pick (eqb n 1) await.Call
    (pick (eqb n 2) await.Sent (pick (eqb n 3) await.Body (pick (eqb n 4) await.Taken await.Nothing))))

-- The state in the user's numbers.
unfoldable pub client_of : List ℕ → Client
client_of w =
    record {
      settings = settings_in w;
      remote_max_packet_length = at w 4 % 2 ^ 16;
      connection_id = id_from (at w 5) (at w 6);
      operation = operation_of (operation_in w);
      awaits = await_of (at w 20);
      aborting = flag (at w 21);
      begun = at w 22;
      length = at w 23;
    }

-- ---- the outcome: numbers 25 to 28

-- The end that has the number `n` (docs/PROTOCOL.md#client).
unfoldable pub end_from : ℕ → End
end_from n =
    pick (eqb n 1) end.Disconnected
    (pick (eqb n 2) end.Truncated (pick (eqb n 3) end.LengthTooSmall (pick (eqb n 23) end.Unreadable end.HeadersChanged)))

-- The refusal that has the number `n` (docs/PROTOCOL.md#client).
unfoldable pub refusal_of : ℕ → Refusal
refusal_of n =
    pick (eqb n 8) refusal.BadHeaders
    (pick (eqb n 9) refusal.WrongMoment (pick (eqb n 10) refusal.StoreTooShort refusal.HeaderTooLong))

-- A body of `a` bytes if `n` is 1, else none.
abbrev pub body_of : ℕ → ℕ → Body
body_of n a = pick (eqb n 1) (Some a) None

-- The outcome, by its kind. Any kind over 8 is an operation that was aborted.
unfoldable pub outcome_of : Four → Outcome
outcome_of n =
    pick (eqb n.kind 0) outcome.WantsBytes
    (pick (eqb n.kind 1) (outcome.Send n.a)
    (pick (eqb n.kind 2) (outcome.End (end_from n.a))
    (pick (eqb n.kind 3) (outcome.Refused (refusal_of n.a))
    (pick (eqb n.kind 4) outcome.Ready
    (pick (eqb n.kind 5) (outcome.Read n.a)
    (pick (eqb n.kind 6) (outcome.Part n.a (body_of n.b n.c))
    (pick (eqb n.kind 7) (outcome.Done n.a n.b)
    (pick (eqb n.kind 8) (outcome.Stopped n.a n.b) (outcome.Aborted n.a n.b)))))))))

-- The numbers of a part.
abbrev pub part_numbers : ℕ → Body → Four
part_numbers kept (Some n) = four 6 kept 1 n
part_numbers kept None = four 6 kept 0 0

-- The numbers of an outcome.
abbrev pub outcome_numbers : Outcome → Four
outcome_numbers outcome.Ready = four 4 0 0 0
outcome_numbers (outcome.Send n) = four 1 n 0 0
outcome_numbers outcome.WantsBytes = four 0 0 0 0
outcome_numbers (outcome.Read n) = four 5 n 0 0
outcome_numbers (outcome.Part kept b) = part_numbers kept b
outcome_numbers (outcome.Done code n) = four 7 code n 0
outcome_numbers (outcome.Stopped code n) = four 8 code n 0
outcome_numbers (outcome.Aborted code n) = four 9 code n 0
outcome_numbers (outcome.End x) = four 2 (end_number x) 0 0
outcome_numbers (outcome.Refused r) = four 3 (refusal_number r) 0 0

-- Whether an outcome is that of an accepted start.
abbrev pub is_ready : Outcome → Bool
is_ready x = eqb (outcome_numbers x).kind 4

-- ---- the result of a call

-- The outcome's kind and values in the user's numbers.
abbrev pub outcome_in : List ℕ → Four
outcome_in w = four (at w 25) (at w 26) (at w 27) (at w 28)

-- What a call left: the state, in number 24 how many bytes were taken, and the outcome.
unfoldable pub result_of : List ℕ → CallResult
result_of w = record { client = client_of w; taken = at w 24; outcome = outcome_of (outcome_in w) }

-- All 32 numbers that a call leaves. The version is not among them: a start asks for settings that were written anew.
unfoldable pub words_of : CallResult → List ℕ
words_of r =
    let c = r.client in
    let i = id_numbers c.connection_id in
    let o = operation_numbers c.operation in
    let t = outcome_numbers r.outcome in
    c.settings.max_packet_length
    ∷ flag_number c.settings.srm_wanted
    ∷ 0
    ∷ 0
    ∷ c.remote_max_packet_length
    ∷ i.kind
    ∷ i.a
    ∷ o.kind
    ∷ o.a
    ∷ o.b
    ∷ o.c
    ∷ o.d
    ∷ o.e
    ∷ o.f
    ∷ o.g
    ∷ o.h
    ∷ o.i
    ∷ o.j
    ∷ o.k
    ∷ o.l
    ∷ await_number c.awaits
    ∷ flag_number c.aborting
    ∷ c.begun
    ∷ c.length
    ∷ r.taken
    ∷ t.kind
    ∷ t.a
    ∷ t.b
    ∷ t.c
    ∷ 0
    ∷ 0
    ∷ 0
    ∷ []

-- ---- the start

-- The state after a start that was refused: it has ended.
abbrev pub ended_with : Settings → Client
ended_with st = client_with st min_packet None operation.Nothing await.Nothing false 0 0

-- What a start with these settings gives: its result `r` if the numbers are settings, and else a refusal, unless `r` is one.
abbrev pub judged_start : Bool → Settings → CallResult → CallResult
judged_start fit st r =
    pick (fit || not (is_ready r.outcome)) r
    (record { client = ended_with st; taken = 0; outcome = outcome.Refused refusal.BadHeaders })

-- The start of a user's numbers. If they are no settings, and every store is long enough, it is refused with 8, as headers are that may not
-- be given; the state has then ended.
abbrev pub start_on : List ℕ → Stores → Stepped
start_on w s =
    pick (settings_fit w || short s) (start_step (settings_in w) s) (refuse refusal.BadHeaders (ended_with (settings_in w)) s)
