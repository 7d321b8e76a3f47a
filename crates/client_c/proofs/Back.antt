-- What `words_of` makes numbers of, `result_of` gives back: flags, ends, refusals, what is awaited, operations, outcomes, and the whole result.
-- Numbers of fewer than 64 bits come back by their low bits, which the code knows from their types.
use mathlib.Core.Path.{◌≡◌, refl, ap, ◌∙◌}
use mathlib.Core.List.{List}
use mathlib.Core.Bool.{Bool, true, false}
use Prim.Native.Nat.{ℕ, ◌%◌, ◌^◌}
use Rattle.std.specs.Prelude.{Some, None}
use Rattle.outgoing.specs.declared.object.Outgoing.{Outgoing}
use Rattle.outgoing.specs.declared.object.Chunk.{Chunk}
use Rattle.client_model.specs.declared.Kind.{Kind}
use Rattle.client_model.specs.declared.Kind.TheVariants as kind_of
use Rattle.client_model.specs.declared.Operation.TheVariants as operation
use Rattle.client_model.specs.declared.Await.{Await}
use Rattle.client_model.specs.declared.Await.TheVariants as await
use Rattle.client_model.specs.declared.End.{End}
use Rattle.client_model.specs.declared.End.TheVariants as end
use Rattle.client_model.specs.declared.Refusal.{Refusal}
use Rattle.client_model.specs.declared.Refusal.TheVariants as refusal
use Rattle.client_model.specs.declared.Outcome.{Outcome}
use Rattle.client_model.specs.declared.Outcome.TheVariants as outcome
use Rattle.client_model.specs.declared.CallResult.{CallResult}
use Rattle.client_model.specs.Numbers.{end_number, refusal_number, await_number}
use Rattle.client_c.specs.Words.{flag, flag_number, id_from, id_numbers, operation_of, operation_numbers, await_of, client_of}
use Rattle.client_c.specs.Words.{four, end_from, refusal_of, outcome_of, outcome_numbers, result_of, words_of}

pub flag-back : (b : Bool) → flag (flag_number b) ≡ b
flag-back true = refl
flag-back false = refl

pub end_back : (x : End) → end_from (end_number x) ≡ x
unfolding end_from
end_back end.Disconnected = refl
end_back end.Truncated = refl
end_back end.LengthTooSmall = refl
end_back end.Unreadable = refl
end_back end.HeadersChanged = refl

pub refusal_back : (x : Refusal) → refusal_of (refusal_number x) ≡ x
unfolding refusal_of
refusal_back refusal.BadHeaders = refl
refusal_back refusal.WrongMoment = refl
refusal_back refusal.StoreTooShort = refl
refusal_back refusal.HeaderTooLong = refl

pub await_back : (x : Await) → await_of (await_number x) ≡ x
unfolding await_of
await_back await.Bytes = refl
await_back await.Call = refl
await_back await.Sent = refl
await_back await.Body = refl
await_back await.Taken = refl
await_back await.Nothing = refl

pub requesting_back : (k : Kind) (o : Outgoing) (c : Chunk) (srm first last : Bool) → o.pending % 2 ^ 8 ≡ o.pending
    → operation_of (operation_numbers (operation.Requesting k o c srm first last)) ≡ operation.Requesting k o c srm first last
unfolding operation_of
requesting_back kind_of.Put o c srm first last h =
    simp (h, flag-back o.lead, flag-back o.has_body, flag-back o.has_pending, flag-back srm, flag-back first, flag-back last)
requesting_back kind_of.Get o c srm first last h =
    simp (h, flag-back o.lead, flag-back o.has_body, flag-back o.has_pending, flag-back srm, flag-back first, flag-back last)

pub receiving_back : (srm last : Bool) (code : ℕ) → code % 2 ^ 8 ≡ code
    → operation_of (operation_numbers (operation.Receiving srm last code)) ≡ operation.Receiving srm last code
unfolding operation_of
receiving_back srm last code h = simp (h, flag-back srm, flag-back last)

pub outcome-back : (x : Outcome) → outcome_of (outcome_numbers x) ≡ x
unfolding outcome_of
outcome-back outcome.Ready = refl
outcome-back (outcome.Send n) = refl
outcome-back outcome.WantsBytes = refl
outcome-back (outcome.Read n) = refl
outcome-back (outcome.Part kept (Some n)) = refl
outcome-back (outcome.Part kept None) = refl
outcome-back (outcome.Done code n) = refl
outcome-back (outcome.Stopped code n) = refl
outcome-back (outcome.Aborted code n) = refl
outcome-back (outcome.End x) = simp (end_back x)
outcome-back (outcome.Refused x) = simp (refusal_back x)

-- the numbers of a result whose narrow fields have the bits of their types
words_back : (r : CallResult)
    → r.client.settings.max_packet_length % 2 ^ 16 ≡ r.client.settings.max_packet_length
    → r.client.remote_max_packet_length % 2 ^ 16 ≡ r.client.remote_max_packet_length
    → id_from (id_numbers r.client.connection_id).kind (id_numbers r.client.connection_id).a ≡ r.client.connection_id
    → operation_of (operation_numbers r.client.operation) ≡ r.client.operation
    → result_of (words_of r) ≡ r
unfolding result_of client_of words_of
words_back r packet remote id open-one =
    let o = operation_numbers r.client.operation in
    let eo
    : operation_of
    (record {
      kind = o.kind;
      a = o.a;
      b = o.b;
      c = o.c;
      d = o.d;
      e = o.e;
      f = o.f;
      g = o.g;
      h = o.h;
      i = o.i;
      j = o.j;
      k = o.k;
      l = o.l;
    })
    ≡ r.client.operation = open-one
    in
    let t = outcome_numbers r.outcome in
    let et : outcome_of (four t.kind t.a t.b t.c) ≡ r.outcome = outcome-back r.outcome in
    simp (
      packet,
      remote,
      id,
      eo,
      et,
      flag-back r.client.settings.srm_wanted,
      flag-back r.client.aborting,
      await_back r.client.awaits,
    )

pub written_back : (w : List ℕ) (r : CallResult) → w ≡ words_of r
    → r.client.settings.max_packet_length % 2 ^ 16 ≡ r.client.settings.max_packet_length
    → r.client.remote_max_packet_length % 2 ^ 16 ≡ r.client.remote_max_packet_length
    → id_from (id_numbers r.client.connection_id).kind (id_numbers r.client.connection_id).a ≡ r.client.connection_id
    → operation_of (operation_numbers r.client.operation) ≡ r.client.operation
    → (w ≡ words_of r) × (result_of w ≡ r)
written_back w r written packet remote id open-one = (written, ap result_of written ∙ words_back r packet remote id open-one)
