-- What `words_of` makes numbers of, `result_of` gives back: flags, ends, refusals, settings, peer, operations, outcomes, and the whole result.
-- Numbers of fewer than 64 bits come back by their low bits, which the code knows from their types.
use mathlib.Core.Path.{◌≡◌, refl, ap, ◌∙◌}
use mathlib.Core.List.{List}
use mathlib.Core.Bool.{Bool, true, false}
use Prim.Native.Nat.{ℕ, ◌%◌, ◌^◌}
use Rattle.base.specs.Place.{Place, Some, None}
use Rattle.connection.specs.Peer.{Challenge}
use Rattle.packet.specs.declared.opcode.Opcode.{Opcode}
use Rattle.incoming.specs.declared.gather.Gathered.{Gathered}
use Rattle.outgoing.specs.declared.object.Outgoing.{Outgoing}
use Rattle.outgoing.specs.declared.object.Chunk.{Chunk}
use Rattle.connection.specs.declared.peer.Peer.{Peer}
use Rattle.server.specs.Numbers.{end_number, refusal_number}
use Rattle.server.specs.declared.Settings.{Settings}
use Rattle.server.specs.declared.Operation.TheVariants as operation
use Rattle.server.specs.declared.HostRequest.{HostRequest}
use Rattle.server.specs.declared.HostRequest.TheVariants as request
use Rattle.server.specs.declared.End.{End}
use Rattle.server.specs.declared.End.TheVariants as end
use Rattle.server.specs.declared.Refusal.{Refusal}
use Rattle.server.specs.declared.Refusal.TheVariants as refusal
use Rattle.server.specs.declared.Outcome.{Outcome}
use Rattle.server.specs.declared.Outcome.TheVariants as outcome
use Rattle.server.specs.declared.CallResult.{CallResult}
use Rattle.model.proofs.Moments.{await_back}
use Rattle.engine_c.specs.Words.{flag, flag_number, twelve, settings_by, settings_numbers, challenge_of, challenge_numbers, peer_by, peer_numbers}
use Rattle.engine_c.specs.Words.{opcode_of, opcode_numbers, operation_of, operation_numbers, engine_of}
use Rattle.engine_c.specs.Words.{end_of, refusal_of, found_of, found_numbers, outcome_of, outcome_numbers, request_numbers, result_of, words_of}

pub flag-back : (b : Bool) → flag (flag_number b) ≡ b
flag-back true = refl
flag-back false = refl

pub end_back : (x : End) → end_of (end_number x) ≡ x
unfolding end_of
end_back end.Disconnected = refl
end_back end.Truncated = refl
end_back end.LengthTooSmall = refl
end_back end.Unreadable = refl
end_back end.OtherOperation = refl
end_back end.HeadersTooLarge = refl
end_back end.ReplyTooLarge = refl

pub refusal_back : (x : Refusal) → refusal_of (refusal_number x) ≡ x
unfolding refusal_of
refusal_back refusal.BadAnswer = refl
refusal_back refusal.WrongMoment = refl
refusal_back refusal.StoreTooShort = refl
refusal_back refusal.NonceUsed = refl
refusal_back refusal.TooManyIds = refl
refusal_back refusal.IdNotOpen = refl
refusal_back refusal.IdRepeated = refl

-- ---- the state

pub settings-back : (s : Settings)
    → s.max_object_size % 2 ^ 32 ≡ s.max_object_size
    → s.max_packet_length % 2 ^ 16 ≡ s.max_packet_length
    → s.charset % 2 ^ 8 ≡ s.charset
    → settings_by (settings_numbers s) ≡ s
settings-back s object packet charset =
    simp (
      object,
      packet,
      charset,
      flag-back s.has_realm,
      flag-back s.srm_supported,
      flag-back s.authentication,
      flag-back s.user_id_required,
      flag-back s.read_only,
      flag-back s.user_id_enforced,
      flag-back s.refuse_trailing,
    )

challenge-back : (x : Challenge) → challenge_of (challenge_numbers x).kind (challenge_numbers x).a (challenge_numbers x).b ≡ x
challenge-back (Some n) = refl
challenge-back None = refl

pub peer-back : (p : Peer)
    → p.next_connection_id % 2 ^ 32 ≡ p.next_connection_id
    → p.remote_max_packet_length % 2 ^ 16 ≡ p.remote_max_packet_length
    → peer_by (peer_numbers p) ≡ p
peer-back p id remote =
    simp (id, remote, flag-back p.srm_enabled, flag-back p.authenticated, challenge-back p.challenge)

pub putting-back : (got : Gathered) (srm : Bool) → operation_of (operation_numbers (operation.Putting got srm)) ≡ operation.Putting got srm
unfolding operation_of
putting-back got srm = simp (flag-back got.came, flag-back got.over, flag-back got.full, flag-back srm)

pub getting-back : (got : Gathered) (srm confirm wait : Bool)
    → operation_of (operation_numbers (operation.Getting got srm confirm wait)) ≡ operation.Getting got srm confirm wait
unfolding operation_of
getting-back got srm confirm wait =
    simp (flag-back got.came, flag-back got.over, flag-back got.full, flag-back srm, flag-back confirm, flag-back wait)

pub sending-back : (o : Outgoing) (c : Chunk) (srm wait : Bool) → o.pending % 2 ^ 8 ≡ o.pending
    → operation_of (operation_numbers (operation.Sending o c srm wait)) ≡ operation.Sending o c srm wait
unfolding operation_of
sending-back o c srm wait h =
    simp (h, flag-back o.lead, flag-back o.has_body, flag-back o.has_pending, flag-back srm, flag-back wait)

pub gathering-back : (o : Opcode) (got : Gathered) → opcode_of (opcode_numbers o).kind (opcode_numbers o).a ≡ o
    → operation_of (operation_numbers (operation.Gathering o got)) ≡ operation.Gathering o got
unfolding operation_of
gathering-back o got h = simp (h, flag-back got.came, flag-back got.over, flag-back got.full)

-- ---- the outcome

found_back : (x : Place) → found_of (found_numbers 0 x).a (found_numbers 0 x).b (found_numbers 0 x).c ≡ x
found_back (Some p) = refl
found_back None = refl

request-back : (x : HostRequest) → outcome_of (request_numbers x) ≡ outcome.Request x
unfolding outcome_of
request-back (request.Connect n) = refl
request-back (request.Disconnect n) = refl
request-back (request.SetPath n backup no-create) = simp (flag-back backup, flag-back no-create)
request-back (request.Abort n) = refl
request-back (request.Put kept (Some n)) = refl
request-back (request.Put kept None) = refl
request-back (request.Get kept) = refl
request-back (request.Action kept) = refl
request-back (request.Session kept) = refl
request-back (request.UserDefined opcode kept) = refl
request-back (request.Password (Some p)) = refl
request-back (request.Password None) = refl
request-back request.Nonce = refl
request-back (request.Credentials nonce required only realm) = simp (flag-back required, flag-back only, found_back realm)
request-back (request.Read room) = refl

pub outcome-back : (x : Outcome) → outcome_of (outcome_numbers x) ≡ x
unfolding outcome_of
outcome-back outcome.WantsBytes = refl
outcome-back (outcome.Reply n) = refl
outcome-back (outcome.Request q) = request-back q
outcome-back (outcome.End x) = simp (end_back x)
outcome-back (outcome.Refused x) = simp (refusal_back x)

-- ---- the whole result

-- the numbers of a result whose settings, peer and operation come back
words_back : (r : CallResult)
    → settings_by (settings_numbers r.engine.settings) ≡ r.engine.settings
    → peer_by (peer_numbers r.engine.peer) ≡ r.engine.peer
    → operation_of (operation_numbers r.engine.operation) ≡ r.engine.operation
    → result_of (words_of r) ≡ r
unfolding result_of engine_of words_of
words_back r settings peer open-one =
    let o = operation_numbers r.engine.operation in
    let eo
    : operation_of (twelve o.kind o.a o.b o.c o.d o.e o.f o.g o.h o.i o.j o.k) ≡ r.engine.operation =
    open-one
    in
    let t = outcome_numbers r.outcome in
    let et : outcome_of (twelve t.kind t.a t.b t.c t.d t.e t.f t.g t.h t.i t.j t.k) ≡ r.outcome =
    outcome-back r.outcome
    in
    simp (settings, peer, eo, et, await_back r.engine.awaits)

pub written_back : (w : List ℕ) (r : CallResult) → w ≡ words_of r
    → settings_by (settings_numbers r.engine.settings) ≡ r.engine.settings
    → peer_by (peer_numbers r.engine.peer) ≡ r.engine.peer
    → operation_of (operation_numbers r.engine.operation) ≡ r.engine.operation
    → (w ≡ words_of r) × (result_of w ≡ r)
written_back w r written settings peer open-one = (written, ap result_of written ∙ words_back r settings peer open-one)
