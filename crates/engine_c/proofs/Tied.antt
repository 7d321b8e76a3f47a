-- What a caller learns from each export's contract is what `ExportsUphold` needs of it, so that theorem speaks of the exports' own clauses.
-- `Learnt` is the reading of an `ensures` clause that the check makes: a contract that stops saying it breaks its line here. A call that is
-- not lent the table store says nothing of it: its line holds for every table store that the host keeps beside it. Assumes nothing.
use mathlib.Core.Path.{◌≡◌, ap}
use mathlib.Core.List.{List}
use Prim.Native.Nat.{ℕ}
use contract.Lifetimes.{Lfts}
use denote.Triple.Clauses.{AtExit}
use borrow.Fn.World.{ArgsD, ResD}
use borrow.Fn.Kinds.{ended_of}
use Rattle.packet.specs.AuthWrite.{given}
use Rattle.connection.specs.Pieces.{credentials_of}
use Rattle.journal.specs.Calls.{bytes_offered_of, stream_ended_of, reply_taken_of, reply_given_of, object_given_of, body_given_of, body_failed_of, abort_acknowledged_of, password_given_of, nonce_given_of, credentials_given_of, connections_closed_of}
use Rattle.model.specs.Step.{Stores, stores, Stepped, stepped, called}
use Rattle.model.specs.Runs.{Says, beside}
use Rattle.server.specs.declared.Outcome.TheVariants as outcome
use Rattle.engine_c.specs.Words.{result_of}
use Rattle.engine_c.specs.Theorem.{Kept, state_in, returned}
use Rattle.engine_c.proofs.Starting.{Starts, accepted}
use Rattle.engine_c.specs.contracts.obex_engine_start
use Rattle.engine_c.proofs.obex_engine_start.Kinds as start_kinds
use Rattle.engine_c.proofs.obex_engine_start.Reads as start_reads
use Rattle.engine_c.specs.contracts.obex_engine_bytes_offered
use Rattle.engine_c.proofs.obex_engine_bytes_offered.Kinds as bytes_offered_kinds
use Rattle.engine_c.proofs.obex_engine_bytes_offered.Reads as bytes_offered_reads
use Rattle.engine_c.specs.contracts.obex_engine_stream_ended
use Rattle.engine_c.proofs.obex_engine_stream_ended.Kinds as stream_ended_kinds
use Rattle.engine_c.proofs.obex_engine_stream_ended.Reads as stream_ended_reads
use Rattle.engine_c.specs.contracts.obex_engine_reply_taken
use Rattle.engine_c.proofs.obex_engine_reply_taken.Kinds as reply_taken_kinds
use Rattle.engine_c.proofs.obex_engine_reply_taken.Reads as reply_taken_reads
use Rattle.engine_c.specs.contracts.obex_engine_reply_given
use Rattle.engine_c.proofs.obex_engine_reply_given.Kinds as reply_given_kinds
use Rattle.engine_c.proofs.obex_engine_reply_given.Reads as reply_given_reads
use Rattle.engine_c.specs.contracts.obex_engine_object_given
use Rattle.engine_c.proofs.obex_engine_object_given.Kinds as object_given_kinds
use Rattle.engine_c.proofs.obex_engine_object_given.Reads as object_given_reads
use Rattle.engine_c.specs.contracts.obex_engine_body_given
use Rattle.engine_c.proofs.obex_engine_body_given.Kinds as body_given_kinds
use Rattle.engine_c.proofs.obex_engine_body_given.Reads as body_given_reads
use Rattle.engine_c.specs.contracts.obex_engine_body_failed
use Rattle.engine_c.proofs.obex_engine_body_failed.Kinds as body_failed_kinds
use Rattle.engine_c.proofs.obex_engine_body_failed.Reads as body_failed_reads
use Rattle.engine_c.specs.contracts.obex_engine_abort_acknowledged
use Rattle.engine_c.proofs.obex_engine_abort_acknowledged.Kinds as abort_acknowledged_kinds
use Rattle.engine_c.proofs.obex_engine_abort_acknowledged.Reads as abort_acknowledged_reads
use Rattle.engine_c.specs.contracts.obex_engine_password_given
use Rattle.engine_c.proofs.obex_engine_password_given.Kinds as password_given_kinds
use Rattle.engine_c.proofs.obex_engine_password_given.Reads as password_given_reads
use Rattle.engine_c.specs.contracts.obex_engine_nonce_given
use Rattle.engine_c.proofs.obex_engine_nonce_given.Kinds as nonce_given_kinds
use Rattle.engine_c.proofs.obex_engine_nonce_given.Reads as nonce_given_reads
use Rattle.engine_c.specs.contracts.obex_engine_credentials_given
use Rattle.engine_c.proofs.obex_engine_credentials_given.Kinds as credentials_given_kinds
use Rattle.engine_c.proofs.obex_engine_credentials_given.Reads as credentials_given_reads
use Rattle.engine_c.specs.contracts.obex_engine_connections_closed
use Rattle.engine_c.proofs.obex_engine_connections_closed.Kinds as connections_closed_kinds
use Rattle.engine_c.proofs.obex_engine_connections_closed.Reads as connections_closed_reads

-- what the host keeps before a call
abbrev before : List ℕ → List ℕ → Stores → Kept
before t w s = record { words = w; stores = s; tables = t }

-- an accepted start is the engine's, as `AcceptedOn` has it, and the numbers were settings
pub start-says : (κs : Lfts 7) (a : ArgsD obex_engine_start.signature κs) (r : ResD obex_engine_start.signature κs)
    (x : AtExit (ended_of 7 start_kinds.ps start_kinds.r) κs)
    → start_reads.Learnt κs a r x
    → let p = a.1.1.1 in
    let q = x.1.1.1 in
    (result_of x.0.now).outcome ≡ outcome.WantsBytes
    → Starts a.0.now a.1.0.now (stores p.0.now p.1.0.now p.1.1.0.now p.1.1.1.0.now) a.1.1.0.now
    (stepped (result_of x.0.now) (stores q.0.now q.1.0.now q.1.1.0.now q.1.1.1.0.now))
start-says κs a r x h e = accepted _ _ _ _ _ h.0 e

pub bytes-offered-says : (κs : Lfts 7) (a : ArgsD obex_engine_bytes_offered.signature κs) (r : ResD obex_engine_bytes_offered.signature κs)
    (x : AtExit (ended_of 7 bytes_offered_kinds.ps bytes_offered_kinds.r) κs)
    → bytes_offered_reads.Learnt κs a r x
    → let p = a.1.1.1 in
    let q = x.1.1.1 in
    Says (state_in (before a.1.1.0.now a.0.now (stores p.0.now p.1.0.now p.1.1.0.now p.1.1.1.0.now)))
    (bytes_offered_of a.1.0.now) (returned x.0.now (stores q.0.now q.1.0.now q.1.1.0.now q.1.1.1.0.now) a.1.1.0.now)
bytes-offered-says κs a r x h = record { step = ap (λ (m : Stepped). called m a.1.1.0.now) h.0; octets = h.1.1 }

pub stream_ended-says : (t : List ℕ) (κs : Lfts 5) (a : ArgsD obex_engine_stream_ended.signature κs) (r : ResD obex_engine_stream_ended.signature κs)
    (x : AtExit (ended_of 5 stream_ended_kinds.ps stream_ended_kinds.r) κs)
    → stream_ended_reads.Learnt κs a r x
    → let p = a.1 in
    let q = x.1 in
    Says (state_in (before t a.0.now (stores p.0.now p.1.0.now p.1.1.0.now p.1.1.1.0.now)))
    stream_ended_of (returned x.0.now (stores q.0.now q.1.0.now q.1.1.0.now q.1.1.1.0.now) t)
stream_ended-says t κs a r x h = record { step = ap (λ (m : Stepped). called m t) h.0; octets = tt }

pub reply-taken-says : (t : List ℕ) (κs : Lfts 5) (a : ArgsD obex_engine_reply_taken.signature κs) (r : ResD obex_engine_reply_taken.signature κs)
    (x : AtExit (ended_of 5 reply_taken_kinds.ps reply_taken_kinds.r) κs)
    → reply_taken_reads.Learnt κs a r x
    → let p = a.1 in
    let q = x.1 in
    Says (state_in (before t a.0.now (stores p.0.now p.1.0.now p.1.1.0.now p.1.1.1.0.now)))
    reply_taken_of (returned x.0.now (stores q.0.now q.1.0.now q.1.1.0.now q.1.1.1.0.now) t)
reply-taken-says t κs a r x h = record { step = ap (λ (m : Stepped). called m t) h.0; octets = tt }

pub reply-given-says : (κs : Lfts 7) (a : ArgsD obex_engine_reply_given.signature κs) (r : ResD obex_engine_reply_given.signature κs)
    (x : AtExit (ended_of 7 reply_given_kinds.ps reply_given_kinds.r) κs)
    → reply_given_reads.Learnt κs a r x
    → let p = a.1.1.1.1 in
    let q = x.1.1.1.1 in
    Says (state_in (before a.1.1.1.0.now a.0.now (stores p.0.now p.1.0.now p.1.1.0.now p.1.1.1.0.now)))
    (reply_given_of a.1.0 a.1.1.0.now) (returned x.0.now (stores q.0.now q.1.0.now q.1.1.0.now q.1.1.1.0.now) x.1.1.1.0.now)
reply-given-says κs a r x h = record { step = h.0; octets = tt }

pub object-given-says : (t : List ℕ) (κs : Lfts 6) (a : ArgsD obex_engine_object_given.signature κs) (r : ResD obex_engine_object_given.signature κs)
    (x : AtExit (ended_of 6 object_given_kinds.ps object_given_kinds.r) κs)
    → object_given_reads.Learnt κs a r x
    → let p = a.1.1.1 in
    let q = x.1.1.1 in
    Says (state_in (before t a.0.now (stores p.0.now p.1.0.now p.1.1.0.now p.1.1.1.0.now)))
    (object_given_of a.1.0.now a.1.1.0) (returned x.0.now (stores q.0.now q.1.0.now q.1.1.0.now q.1.1.1.0.now) t)
object-given-says t κs a r x h = record { step = ap (λ (m : Stepped). called m t) h.0; octets = tt }

pub body-given-says : (t : List ℕ) (κs : Lfts 6) (a : ArgsD obex_engine_body_given.signature κs) (r : ResD obex_engine_body_given.signature κs)
    (x : AtExit (ended_of 6 body_given_kinds.ps body_given_kinds.r) κs)
    → body_given_reads.Learnt κs a r x
    → let p = a.1.1 in
    let q = x.1.1 in
    Says (state_in (before t a.0.now (stores p.0.now p.1.0.now p.1.1.0.now p.1.1.1.0.now)))
    (body_given_of a.1.0.now) (returned x.0.now (stores q.0.now q.1.0.now q.1.1.0.now q.1.1.1.0.now) t)
body-given-says t κs a r x h = record { step = ap (λ (m : Stepped). called m t) h.0; octets = tt }

pub body_failed_says : (t : List ℕ) (κs : Lfts 5) (a : ArgsD obex_engine_body_failed.signature κs) (r : ResD obex_engine_body_failed.signature κs)
    (x : AtExit (ended_of 5 body_failed_kinds.ps body_failed_kinds.r) κs)
    → body_failed_reads.Learnt κs a r x
    → let p = a.1 in
    let q = x.1 in
    Says (state_in (before t a.0.now (stores p.0.now p.1.0.now p.1.1.0.now p.1.1.1.0.now)))
    body_failed_of (returned x.0.now (stores q.0.now q.1.0.now q.1.1.0.now q.1.1.1.0.now) t)
body_failed_says t κs a r x h = record { step = ap (λ (m : Stepped). called m t) h.0; octets = tt }

pub abort_acknowledged-says : (t : List ℕ) (κs : Lfts 5) (a : ArgsD obex_engine_abort_acknowledged.signature κs) (r : ResD obex_engine_abort_acknowledged.signature κs)
    (x : AtExit (ended_of 5 abort_acknowledged_kinds.ps abort_acknowledged_kinds.r) κs)
    → abort_acknowledged_reads.Learnt κs a r x
    → let p = a.1 in
    let q = x.1 in
    Says (state_in (before t a.0.now (stores p.0.now p.1.0.now p.1.1.0.now p.1.1.1.0.now)))
    abort_acknowledged_of (returned x.0.now (stores q.0.now q.1.0.now q.1.1.0.now q.1.1.1.0.now) t)
abort_acknowledged-says t κs a r x h = record { step = ap (λ (m : Stepped). called m t) h.0; octets = tt }

pub password-given-says : (t : List ℕ) (κs : Lfts 6) (a : ArgsD obex_engine_password_given.signature κs) (r : ResD obex_engine_password_given.signature κs)
    (x : AtExit (ended_of 6 password_given_kinds.ps password_given_kinds.r) κs)
    → password_given_reads.Learnt κs a r x
    → let p = a.1.1.1 in
    let q = x.1.1.1 in
    Says (state_in (before t a.0.now (stores p.0.now p.1.0.now p.1.1.0.now p.1.1.1.0.now)))
    (password_given_of (given a.1.0 a.1.1.0.now)) (returned x.0.now (stores q.0.now q.1.0.now q.1.1.0.now q.1.1.1.0.now) t)
password-given-says t κs a r x h = record { step = ap (λ (m : Stepped). called m t) h.0; octets = tt }

pub nonce-given-says : (κs : Lfts 7) (a : ArgsD obex_engine_nonce_given.signature κs) (r : ResD obex_engine_nonce_given.signature κs)
    (x : AtExit (ended_of 7 nonce_given_kinds.ps nonce_given_kinds.r) κs)
    → nonce_given_reads.Learnt κs a r x
    → let p = a.1.1.1.1.1 in
    let q = x.1.1.1.1.1 in
    Says (state_in (before a.1.1.1.1.0.now a.0.now (stores p.0.now p.1.0.now p.1.1.0.now p.1.1.1.0.now)))
    (nonce_given_of (record { first = a.1.0; second = a.1.1.0 }) a.1.1.1.0.now) (returned x.0.now (stores q.0.now q.1.0.now q.1.1.0.now q.1.1.1.0.now) x.1.1.1.1.0.now)
nonce-given-says κs a r x h = record { step = h.0; octets = tt }

pub credentials-given-says : (t : List ℕ) (κs : Lfts 7) (a : ArgsD obex_engine_credentials_given.signature κs) (r : ResD obex_engine_credentials_given.signature κs)
    (x : AtExit (ended_of 7 credentials_given_kinds.ps credentials_given_kinds.r) κs)
    → credentials_given_reads.Learnt κs a r x
    → let p = a.1.1.1.1.1 in
    let q = x.1.1.1.1.1 in
    Says (state_in (before t a.0.now (stores p.0.now p.1.0.now p.1.1.0.now p.1.1.1.0.now)))
    (credentials_given_of (credentials_of a.1.0 (given a.1.1.0 a.1.1.1.0.now) a.1.1.1.1.0.now)) (returned x.0.now (stores q.0.now q.1.0.now q.1.1.0.now q.1.1.1.0.now) t)
credentials-given-says t κs a r x h = record { step = ap (λ (m : Stepped). called m t) h.0; octets = tt }

-- the call is lent the table store alone, so its line holds for every four stores that the host keeps beside it
pub connections_closed-says : (s : Stores) (κs : Lfts 3) (a : ArgsD obex_engine_connections_closed.signature κs)
    (r : ResD obex_engine_connections_closed.signature κs) (x : AtExit (ended_of 3 connections_closed_kinds.ps connections_closed_kinds.r) κs)
    → connections_closed_reads.Learnt κs a r x
    → let k = before a.1.1.0.now a.0.now s in
    Says (state_in k) (connections_closed_of a.1.0.now) (returned x.0.now s x.1.1.0.now)
connections_closed-says s κs a r x h = record { step = ap (beside (state_in (before a.1.1.0.now a.0.now s))) h.0; octets = tt }
