-- How the state and the result of a call stand in the 64 numbers that a host outside Rattle keeps (docs/RUST.md has the table). `result_of`
-- reads the numbers: every list is read as some state, a kind that nothing has as the last kind, and a field of the state keeps the bits that
-- its type has. `words_of` is what a call leaves, all 64 of them. `start_on` is the start, which refuses numbers that are no settings.
use Rattle.std.specs.Prelude.{ℕ, ◌%◌, ◌^◌, List, [], ◌∷◌, Bool, true, false, ◌&&◌, ◌||◌, not, get_or, eqb, ltb, Some, None}
use Rattle.incoming.specs.Gather.{Body}
use Rattle.base.specs.Pick.{pick}
use Rattle.base.specs.Place.{Place, span}
use Rattle.digest.specs.declared.md5.Octets16.{Octets16}
use Rattle.packet.specs.declared.opcode.Opcode.{Opcode}
use Rattle.packet.specs.declared.opcode.Opcode.TheVariants as op
use Rattle.incoming.specs.declared.gather.Gathered.{Gathered}
use Rattle.outgoing.specs.declared.object.Outgoing.{Outgoing}
use Rattle.outgoing.specs.declared.object.Chunk.{Chunk}
use Rattle.table.specs.declared.targets.Target.{Target}
use Rattle.connection.specs.Peer.{ConnectionId, Challenge}
use Rattle.connection.specs.declared.peer.Peer.{Peer}
use Rattle.server.specs.Numbers.{await_of, await_number, end_number, refusal_number}
use Rattle.server.specs.declared.Await.TheVariants as await
use Rattle.server.specs.declared.Settings.{Settings}
use Rattle.server.specs.declared.Operation.{Operation}
use Rattle.server.specs.declared.Operation.TheVariants as operation
use Rattle.server.specs.declared.Engine.{Engine}
use Rattle.server.specs.declared.HostRequest.{HostRequest}
use Rattle.server.specs.declared.HostRequest.TheVariants as request
use Rattle.server.specs.declared.End.{End}
use Rattle.server.specs.declared.End.TheVariants as end
use Rattle.server.specs.declared.Refusal.{Refusal}
use Rattle.server.specs.declared.Refusal.TheVariants as refusal
use Rattle.server.specs.declared.Outcome.{Outcome}
use Rattle.server.specs.declared.Outcome.TheVariants as outcome
use Rattle.server.specs.declared.CallResult.{CallResult}
use Rattle.model.specs.Step.{Stores, Stepped, engine_with}
use Rattle.model.specs.Guard.{short, short_tables, refuse}
use Rattle.model.specs.Calls.{started, start_step}
use Rattle.engine_c.specs.declared.words.Numbers.{Numbers}

-- The version of the layout below. It is raised with each change of a place or a kind. A start asks for it.
abbrev pub version : ℕ
version = 2

-- The number at a place.
abbrev pub at : List ℕ → ℕ → ℕ
at w i = get_or w i 0

-- A flag is set if its number is 1.
abbrev pub flag : ℕ → Bool
flag n = eqb n 1

-- The number of a flag.
abbrev pub flag_number : Bool → ℕ
flag_number true = 1
flag_number false = 0

-- A kind and eleven numbers.
abbrev pub twelve : ℕ → ℕ → ℕ → ℕ → ℕ → ℕ → ℕ → ℕ → ℕ → ℕ → ℕ → ℕ → Numbers
twelve kind a b c d e f g h i j k =
    record { kind = kind; a = a; b = b; c = c; d = d; e = e; f = f; g = g; h = h; i = i; j = j; k = k }

-- A kind and up to three numbers.
abbrev pub numbers : ℕ → ℕ → ℕ → ℕ → Numbers
numbers kind a b c = twelve kind a b c 0 0 0 0 0 0 0 0

-- ---- the settings: numbers 0 to 9

-- The settings of ten numbers, in the order of the table in docs/RUST.md.
abbrev pub settings_of : ℕ → ℕ → ℕ → ℕ → ℕ → ℕ → ℕ → ℕ → ℕ → ℕ → Settings
settings_of object packet charset has srm auth user only enforced trailing =
    record {
      max_object_size = object % 2 ^ 32;
      max_packet_length = packet % 2 ^ 16;
      charset = charset % 2 ^ 8;
      has_realm = flag has;
      srm_supported = flag srm;
      authentication = flag auth;
      user_id_required = flag user;
      read_only = flag only;
      user_id_enforced = flag enforced;
      refuse_trailing = flag trailing;
    }

-- The settings of the first ten of twelve numbers, as `settings_numbers` of the code makes them.
abbrev pub settings_by : Numbers → Settings
settings_by n = settings_of n.kind n.a n.b n.c n.d n.e n.f n.g n.h n.i

-- The numbers of the settings.
abbrev pub settings_numbers : Settings → Numbers
settings_numbers s =
    twelve s.max_object_size s.max_packet_length s.charset (flag_number s.has_realm) (flag_number s.srm_supported)
    (flag_number s.authentication) (flag_number s.user_id_required) (flag_number s.read_only) (flag_number s.user_id_enforced)
    (flag_number s.refuse_trailing) 0 0

-- The settings in the host's numbers.
abbrev pub settings_in : List ℕ → Settings
settings_in w = settings_of (at w 0) (at w 1) (at w 2) (at w 3) (at w 4) (at w 5) (at w 6) (at w 7) (at w 8) (at w 9)

-- Seven numbers are flags: each is 0 or 1.
unfoldable pub flags_fit : ℕ → ℕ → ℕ → ℕ → ℕ → ℕ → ℕ → Bool
flags_fit a b c d e f g = ltb a 2 && (ltb b 2 && (ltb c 2 && (ltb d 2 && (ltb e 2 && (ltb f 2 && ltb g 2)))))

-- Whether the host's numbers are settings: each has no more bits than its setting, a flag is 0 or 1, and number 10 is the version of this
-- layout. `store` leaves 0 there, so a host writes its settings anew before each start.
unfoldable pub settings_fit : List ℕ → Bool
settings_fit w =
    ltb (at w 0) (2 ^ 32)
    && (ltb (at w 1) (2 ^ 16)
    && (ltb (at w 2) (2 ^ 8)
    && (flags_fit (at w 3) (at w 4) (at w 5) (at w 6) (at w 7) (at w 8) (at w 9) && eqb (at w 10) version)))

-- ---- the peer: numbers 12 to 21

-- The challenge: if `n` is 1, one is stored whose nonce has the halves `a` and `b`.
abbrev pub challenge_of : ℕ → ℕ → ℕ → Challenge
challenge_of n a b = pick (eqb n 1) (Some (record { first = a; second = b })) None

-- The numbers of a challenge.
abbrev pub challenge_numbers : Challenge → Numbers
challenge_numbers (Some n) = numbers 1 n.first n.second 0
challenge_numbers None = numbers 0 0 0 0

-- The peer of ten numbers, in the order of the table in docs/RUST.md.
abbrev pub peer_of : ℕ → ℕ → ℕ → ℕ → ℕ → ℕ → ℕ → ℕ → ℕ → ℕ → Peer
peer_of count nonces window next remote srm auth stored a b =
    record {
      count = count;
      nonces = nonces;
      window = window;
      next_connection_id = next % 2 ^ 32;
      remote_max_packet_length = remote % 2 ^ 16;
      srm_enabled = flag srm;
      authenticated = flag auth;
      challenge = challenge_of stored a b;
    }

-- The peer of the first ten of twelve numbers, as `peer_numbers` of the code makes them.
abbrev pub peer_by : Numbers → Peer
peer_by n = peer_of n.kind n.a n.b n.c n.d n.e n.f n.g n.h n.i

-- The numbers of the peer.
abbrev pub peer_numbers : Peer → Numbers
peer_numbers p =
    let n = challenge_numbers p.challenge in
    twelve p.count p.nonces p.window p.next_connection_id p.remote_max_packet_length (flag_number p.srm_enabled)
    (flag_number p.authenticated) n.kind n.a n.b 0 0

-- The peer in the host's numbers.
abbrev pub peer_in : List ℕ → Peer
peer_in w = peer_of (at w 12) (at w 13) (at w 14) (at w 15) (at w 16) (at w 17) (at w 18) (at w 19) (at w 20) (at w 21)

-- ---- the open operation: numbers 24 to 35

-- The opcode of kind `n`; a user-defined one has the value `x`.
unfoldable pub opcode_of : ℕ → ℕ → Opcode
opcode_of n x =
    pick (eqb n 0) op.Connect
    (pick (eqb n 1) op.Disconnect
    (pick (eqb n 2) op.Put
    (pick (eqb n 3) op.Get
    (pick (eqb n 4) op.SetPath
    (pick (eqb n 5) op.Action
    (pick (eqb n 6) op.Session
    (pick (eqb n 7) op.Abort (op.UserDefined (x % 2 ^ 8)))))))))

-- The numbers of an opcode: its kind, and what a user-defined one holds.
abbrev pub opcode_numbers : Opcode → Numbers
opcode_numbers op.Connect = numbers 0 0 0 0
opcode_numbers op.Disconnect = numbers 1 0 0 0
opcode_numbers op.Put = numbers 2 0 0 0
opcode_numbers op.Get = numbers 3 0 0 0
opcode_numbers op.SetPath = numbers 4 0 0 0
opcode_numbers op.Action = numbers 5 0 0 0
opcode_numbers op.Session = numbers 6 0 0 0
opcode_numbers op.Abort = numbers 7 0 0 0
opcode_numbers (op.UserDefined x) = numbers 8 x 0 0

-- What was gathered: `kept` bytes of headers and `n` of a body, whether a body header came, whether one passed the limit, and whether a
-- header did not fit.
abbrev pub gathered_of : ℕ → ℕ → ℕ → ℕ → ℕ → Gathered
gathered_of kept n came over full = record { kept = kept; body = n; came = flag came; over = flag over; full = flag full }

-- The ConnectionID `x` if `n` is 1, else none.
abbrev pub id_of : ℕ → ℕ → ConnectionId
id_of n x = pick (eqb n 1) (Some (x % 2 ^ 32)) None

-- An object that is being sent: its header bytes, how many of them went out, three flags, and the byte `x` that was read ahead.
abbrev pub outgoing_of : ℕ → ℕ → ℕ → ℕ → ℕ → ℕ → Outgoing
outgoing_of total sent lead has pending x =
    record { total = total; sent = sent; lead = flag lead; has_body = flag has; has_pending = flag pending; pending = x % 2 ^ 8 }

-- A chunk of an object: where its header starts, how many of its bytes stand there, and how many more the host is asked for.
abbrev pub chunk_of : ℕ → ℕ → ℕ → Chunk
chunk_of place got room = record { at = place; got = got; room = room }

-- The operation, by its kind. Kind 0 and any kind over 7 are nothing.
unfoldable pub operation_of : Numbers → Operation
operation_of n =
    pick (eqb n.kind 1) (operation.Putting (gathered_of n.a n.b n.c n.d n.e) (flag n.f))
    (pick (eqb n.kind 2) (operation.Getting (gathered_of n.a n.b n.c n.d n.e) (flag n.f) (flag n.g) (flag n.h))
    (pick (eqb n.kind 3)
    (operation.Sending (outgoing_of n.a n.b n.c n.d n.e n.f) (chunk_of n.g n.h n.i) (flag n.j) (flag n.k))
    (pick (eqb n.kind 4) (operation.Gathering (opcode_of n.f n.g) (gathered_of n.a n.b n.c n.d n.e))
    (pick (eqb n.kind 5) (operation.Connecting (n.a % 2 ^ 8) (id_of n.b n.c) n.d)
    (pick (eqb n.kind 6) (operation.Draining (n.a % 2 ^ 8))
    (pick (eqb n.kind 7) operation.Trailing operation.Nothing))))))

-- The numbers of what was gathered, with a kind and three numbers more.
abbrev pub gathered_numbers : ℕ → Gathered → ℕ → ℕ → ℕ → Numbers
gathered_numbers kind got f g h =
    twelve kind got.kept got.body (flag_number got.came) (flag_number got.over) (flag_number got.full) f g h 0 0 0

-- The numbers of an object that is being sent.
abbrev pub sending_numbers : Outgoing → Chunk → Bool → Bool → Numbers
sending_numbers o c srm wait =
    twelve 3 o.total o.sent (flag_number o.lead) (flag_number o.has_body) (flag_number o.has_pending) o.pending c.at
    c.got c.room (flag_number srm) (flag_number wait)

-- The numbers of a Connect that waits for credentials.
abbrev pub connecting_numbers : ℕ → ConnectionId → ℕ → Numbers
connecting_numbers code (Some x) n = twelve 5 code 1 x n 0 0 0 0 0 0 0
connecting_numbers code None n = twelve 5 code 0 0 n 0 0 0 0 0 0 0

-- The numbers of an operation.
abbrev pub operation_numbers : Operation → Numbers
operation_numbers operation.Nothing = numbers 0 0 0 0
operation_numbers operation.Trailing = numbers 7 0 0 0
operation_numbers (operation.Putting got srm) = gathered_numbers 1 got (flag_number srm) 0 0
operation_numbers (operation.Getting got srm confirm wait) =
    gathered_numbers 2 got (flag_number srm) (flag_number confirm) (flag_number wait)
operation_numbers (operation.Sending o c srm wait) = sending_numbers o c srm wait
operation_numbers (operation.Gathering o got) = gathered_numbers 4 got (opcode_numbers o).kind (opcode_numbers o).a 0
operation_numbers (operation.Connecting code front n) = connecting_numbers code front n
operation_numbers (operation.Draining code) = numbers 6 code 0 0

-- The operation's kind and values in the host's numbers.
abbrev pub operation_in : List ℕ → Numbers
operation_in w =
    twelve (at w 24) (at w 25) (at w 26) (at w 27) (at w 28) (at w 29) (at w 30) (at w 31) (at w 32) (at w 33) (at w 34) (at w 35)

-- ---- the state: numbers 0 to 42

-- The Target is in numbers 36 to 38: its length, over 16 for the mark, and its sixteen bytes in two halves.
abbrev pub target_of : ℕ → ℕ → ℕ → Target
target_of n a b = record { length = n; bytes = record { first = a; second = b } }

-- The numbers of a Target.
abbrev pub target_numbers : Target → Numbers
target_numbers t = numbers t.length t.bytes.first t.bytes.second 0

-- The state in the host's numbers.
unfoldable pub engine_of : List ℕ → Engine
engine_of w =
    record {
      settings = settings_in w;
      peer = peer_in w;
      operation = operation_of (operation_in w);
      awaits = await_of (at w 40);
      begun = at w 41;
      length = at w 42;
      target = target_of (at w 36) (at w 37) (at w 38);
    }

-- ---- the outcome: numbers 44 to 55

-- The end that has the number `n` (docs/PROTOCOL.md#ends).
unfoldable pub end_of : ℕ → End
end_of n =
    pick (eqb n 1) end.Disconnected
    (pick (eqb n 2) end.Truncated
    (pick (eqb n 3) end.LengthTooSmall
    (pick (eqb n 4) end.Unreadable
    (pick (eqb n 5) end.OtherOperation
    (pick (eqb n 6) end.HeadersTooLarge end.ReplyTooLarge)))))

-- The refusal that has the number `n` (docs/PROTOCOL.md#refusals).
unfoldable pub refusal_of : ℕ → Refusal
refusal_of n =
    pick (eqb n 8) refusal.BadAnswer
    (pick (eqb n 9) refusal.WrongMoment
    (pick (eqb n 10) refusal.StoreTooShort
    (pick (eqb n 15) refusal.NonceUsed
    (pick (eqb n 19) refusal.TooManyIds
    (pick (eqb n 20) refusal.IdNotOpen refusal.IdRepeated)))))

-- The place from `a` up to `b` if `n` is 1, else none.
abbrev pub found_of : ℕ → ℕ → ℕ → Place
found_of n a b = pick (eqb n 1) (span a b) None

-- A body of `a` bytes if `n` is 1, else none.
abbrev pub body_of : ℕ → ℕ → Body
body_of n a = pick (eqb n 1) (Some a) None

-- The outcome, by its kind. From 4 on it is a request to the host; any kind over 15 asks for body bytes.
unfoldable pub outcome_of : Numbers → Outcome
outcome_of n =
    pick (eqb n.kind 0) outcome.WantsBytes
    (pick (eqb n.kind 1) (outcome.Reply n.a)
    (pick (eqb n.kind 2) (outcome.End (end_of n.a))
    (pick (eqb n.kind 3) (outcome.Refused (refusal_of n.a))
    (pick (eqb n.kind 4) (outcome.Request (request.Connect n.a))
    (pick (eqb n.kind 5) (outcome.Request (request.Disconnect n.a))
    (pick (eqb n.kind 6) (outcome.Request (request.SetPath n.a (flag n.b) (flag n.c)))
    (pick (eqb n.kind 7) (outcome.Request (request.Abort n.a))
    (pick (eqb n.kind 8) (outcome.Request (request.Put n.a (body_of n.b n.c)))
    (pick (eqb n.kind 9) (outcome.Request (request.Get n.a))
    (pick (eqb n.kind 10) (outcome.Request (request.Action n.a))
    (pick (eqb n.kind 11) (outcome.Request (request.Session n.a))
    (pick (eqb n.kind 12) (outcome.Request (request.UserDefined n.b n.a))
    (pick (eqb n.kind 13) (outcome.Request (request.Password (found_of n.a n.b n.c)))
    (pick (eqb n.kind 14) (outcome.Request request.Nonce)
    (pick (eqb n.kind 15)
    (outcome.Request (request.Credentials (record { first = n.a; second = n.b }) (flag n.c) (flag n.d) (found_of n.e n.f n.g)))
    (outcome.Request (request.Read n.a)))))))))))))))))

-- The numbers of a place in the packet store, with a kind.
abbrev pub found_numbers : ℕ → Place → Numbers
found_numbers kind (Some p) = numbers kind 1 p.start p.end
found_numbers kind None = numbers kind 0 0 0

-- The numbers of a Put that is handed over.
abbrev pub put_numbers : ℕ → Body → Numbers
put_numbers kept (Some n) = numbers 8 kept 1 n
put_numbers kept None = numbers 8 kept 0 0

-- The numbers of a request for credentials.
abbrev pub credentials_numbers : Octets16 → Bool → Bool → Place → Numbers
credentials_numbers nonce required only realm =
    let n = found_numbers 0 realm in
    twelve 15 nonce.first nonce.second (flag_number required) (flag_number only) n.a n.b n.c 0 0 0 0

-- The numbers of a request to the host.
abbrev pub request_numbers : HostRequest → Numbers
request_numbers (request.Connect n) = numbers 4 n 0 0
request_numbers (request.Disconnect n) = numbers 5 n 0 0
request_numbers (request.SetPath n backup no-create) = numbers 6 n (flag_number backup) (flag_number no-create)
request_numbers (request.Abort n) = numbers 7 n 0 0
request_numbers (request.Put kept b) = put_numbers kept b
request_numbers (request.Get kept) = numbers 9 kept 0 0
request_numbers (request.Action kept) = numbers 10 kept 0 0
request_numbers (request.Session kept) = numbers 11 kept 0 0
request_numbers (request.UserDefined opcode kept) = numbers 12 kept opcode 0
request_numbers (request.Password user) = found_numbers 13 user
request_numbers request.Nonce = numbers 14 0 0 0
request_numbers (request.Credentials nonce required only realm) = credentials_numbers nonce required only realm
request_numbers (request.Read room) = numbers 16 room 0 0

-- The numbers of an outcome.
abbrev pub outcome_numbers : Outcome → Numbers
outcome_numbers outcome.WantsBytes = numbers 0 0 0 0
outcome_numbers (outcome.Reply n) = numbers 1 n 0 0
outcome_numbers (outcome.Request q) = request_numbers q
outcome_numbers (outcome.End x) = numbers 2 (end_number x) 0 0
outcome_numbers (outcome.Refused x) = numbers 3 (refusal_number x) 0 0

-- The outcome's kind and values in the host's numbers.
abbrev pub outcome_in : List ℕ → Numbers
outcome_in w =
    twelve (at w 44) (at w 45) (at w 46) (at w 47) (at w 48) (at w 49) (at w 50) (at w 51) (at w 52) (at w 53) (at w 54) (at w 55)

-- What a call left: the state, in number 43 how many bytes were taken, and the outcome.
unfoldable pub result_of : List ℕ → CallResult
result_of w = record { engine = engine_of w; taken = at w 43; outcome = outcome_of (outcome_in w) }

-- All 64 numbers that a call leaves. The version is not among them: a start asks for settings that were written anew.
unfoldable pub words_of : CallResult → List ℕ
words_of r =
    let e = r.engine in
    let s = settings_numbers e.settings in
    let p = peer_numbers e.peer in
    let o = operation_numbers e.operation in
    let g = target_numbers e.target in
    let t = outcome_numbers r.outcome in
    s.kind
    ∷ s.a
    ∷ s.b
    ∷ s.c
    ∷ s.d
    ∷ s.e
    ∷ s.f
    ∷ s.g
    ∷ s.h
    ∷ s.i
    ∷ 0
    ∷ 0
    ∷ p.kind
    ∷ p.a
    ∷ p.b
    ∷ p.c
    ∷ p.d
    ∷ p.e
    ∷ p.f
    ∷ p.g
    ∷ p.h
    ∷ p.i
    ∷ 0
    ∷ 0
    ∷ o.kind
    ∷ o.a
    ∷ o.b
    ∷ o.c
    ∷ o.d
    ∷ o.e
    ∷ o.f
    ∷ o.g
    ∷ o.h
    ∷ o.i
    ∷ o.j
    ∷ o.k
    ∷ g.kind
    ∷ g.a
    ∷ g.b
    ∷ 0
    ∷ await_number e.awaits
    ∷ e.begun
    ∷ e.length
    ∷ r.taken
    ∷ t.kind
    ∷ t.a
    ∷ t.b
    ∷ t.c
    ∷ t.d
    ∷ t.e
    ∷ t.f
    ∷ t.g
    ∷ t.h
    ∷ t.i
    ∷ t.j
    ∷ t.k
    ∷ 0
    ∷ 0
    ∷ 0
    ∷ 0
    ∷ 0
    ∷ 0
    ∷ 0
    ∷ 0
    ∷ []

-- ---- the start

-- Whether an outcome is that of an accepted start: bytes are wanted.
abbrev pub is_waiting : Outcome → Bool
is_waiting outcome.WantsBytes = true
is_waiting (outcome.Reply n) = false
is_waiting (outcome.Request q) = false
is_waiting (outcome.End x) = false
is_waiting (outcome.Refused r) = false

-- The state, ended.
abbrev pub ended_from : Engine → Engine
ended_from e = engine_with e.settings e.peer e.operation await.Nothing e.begun e.length e.target

-- What a start gives: its result `r` if the numbers are settings, and else a refusal, unless `r` is one.
abbrev pub judged_start : Bool → CallResult → CallResult
judged_start fit r =
    pick (fit || not (is_waiting r.outcome)) r
    (record { engine = ended_from r.engine; taken = 0; outcome = outcome.Refused refusal.BadAnswer })

-- The start of a host's numbers `w` with the realm `l`, the stores `s` and the table store `t`. If the numbers are no settings, and every store is
-- long enough, it is refused with 8; the state has then ended.
abbrev pub start_on : List ℕ → List ℕ → Stores → List ℕ → Stepped
start_on w l s t =
    pick (settings_fit w || (short_tables t || short (settings_in w).max_object_size s)) (start_step (settings_in w) l s t)
    (refuse refusal.BadAnswer (ended_from (started (settings_in w))) s)
