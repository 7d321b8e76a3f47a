-- The calls on an engine, by their arguments other than state and stores, and what the journal is fed of each (docs/PROTOCOL.md#journal).
use Rattle.std.specs.Prelude.{ℕ, List, Bool}
use Rattle.std.proofs.Math.Option.{Option}
use Rattle.digest.specs.declared.md5.Octets16.{Octets16}

-- What the host gives to answer a peer's challenge.
pub record Credentials : Type 0 where
  pub user : Option (List ℕ)
  pub password : List ℕ

-- A call on an engine, by its arguments other than state and stores.
pub data Call : Type 0 where
  -- The host offers bytes from the peer.
  bytes_offered_of : List ℕ → Call
  -- The host says that the peer's stream has ended.
  stream_ended_of : Call
  -- The host says that it has sent the reply that waited.
  reply_taken_of : Call
  -- The host answers with a reply: a code and header bytes.
  reply_given_of : ℕ → List ℕ → Call
  -- The host answers a Get with an object: header bytes, with a body or without.
  object_given_of : List ℕ → Bool → Call
  -- The host gives body bytes that were asked for; no bytes are the body's end.
  body_given_of : List ℕ → Call
  -- The host could not read the body.
  body_failed_of : Call
  -- The host acknowledges an Abort.
  abort_acknowledged_of : Call
  -- The host gives the password, if there is one.
  password_given_of : Option (List ℕ) → Call
  -- The host gives a nonce for a new challenge, and the bytes of the realm that the challenge shows.
  nonce_given_of : Octets16 → List ℕ → Call
  -- The host gives credentials to answer the peer's challenge, if it has any.
  credentials_given_of : Option Credentials → Call
  -- The host closes these connection ids together.
  connections_closed_of : List ℕ → Call

-- A call was refused with a number, and changed nothing; or it went.
pub data Verdict : Type 0 where
  goes : Verdict
  refused : ℕ → Verdict

-- What the journal is fed of a call.
pub data Fed : Type 0 where
  -- The call was refused, so it is no step.
  no_step : Fed
  -- The call went.
  step_by_of : Call → Fed
  -- The call `reply_taken_of` went: the host has sent the reply that waited, and this is its first byte.
  reply_sent : ℕ → Fed
