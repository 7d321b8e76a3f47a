-- What a caller learns from each call's contract is the model's step, so `contracts_uphold` speaks of the functions' own clauses. `Learnt`
-- is the reading of an `ensures` clause that the check makes: a contract that stops saying what the records theorem needs breaks its line here.
-- A call that is not lent the table store says nothing of it: its line holds for every table store that the host keeps beside it. Assumes
-- nothing.
use mathlib.Core.Path.{◌≡◌, refl, sym, ap, subst, ◌∙◌}
use mathlib.Core.List.{List, ◌++◌}
use Prim.Native.Nat.{ℕ, ◌+◌, ◌≤◌}
use lib.ListN.{length, take, drop}
use lib.Seq.{sets}
use contract.Lifetimes.{Lfts}
use denote.Triple.Clauses.{AtExit}
use borrow.Fn.World.{ArgsD, ResD}
use borrow.Fn.Kinds.{ended_of}
use Rattle.packet.specs.AuthWrite.{given}
use Rattle.incoming.specs.Frame.{coming}
use Rattle.incoming.proofs.BytesPlaced.{placed-there}
use Rattle.model.proofs.HostWrites.{any_behind}
use Rattle.connection.specs.Pieces.{credentials_of}
use Rattle.journal.specs.Calls.{Call, bytes_offered_of, stream_ended_of, reply_taken_of, reply_given_of, object_given_of, body_given_of, body_failed_of, abort_acknowledged_of, password_given_of, nonce_given_of, credentials_given_of, connections_closed_of}
use Rattle.model.specs.Step.{Stores, stores, Stepped, stepped, Called, called}
use Rattle.model.specs.Calls.{start_step}
use Rattle.model.specs.Runs.{State, beside, writing, Says}
use Rattle.server.specs.declared.Engine.{Engine}
use Rattle.engine.specs.contracts.calls.bytes_offered
use Rattle.engine.proofs.calls.bytes_offered.Kinds as bytes_offered_kinds
use Rattle.engine.proofs.calls.bytes_offered.Reads as bytes_offered_reads
use Rattle.engine.specs.contracts.calls.stream_ended
use Rattle.engine.proofs.calls.stream_ended.Kinds as stream_ended_kinds
use Rattle.engine.proofs.calls.stream_ended.Reads as stream_ended_reads
use Rattle.engine.specs.contracts.calls.reply_taken
use Rattle.engine.proofs.calls.reply_taken.Kinds as reply_taken_kinds
use Rattle.engine.proofs.calls.reply_taken.Reads as reply_taken_reads
use Rattle.engine.specs.contracts.calls.object_given
use Rattle.engine.proofs.calls.object_given.Kinds as object_given_kinds
use Rattle.engine.proofs.calls.object_given.Reads as object_given_reads
use Rattle.engine.specs.contracts.calls.body_given
use Rattle.engine.proofs.calls.body_given.Kinds as body_given_kinds
use Rattle.engine.proofs.calls.body_given.Reads as body_given_reads
use Rattle.engine.specs.contracts.calls.body_failed
use Rattle.engine.proofs.calls.body_failed.Kinds as body_failed_kinds
use Rattle.engine.proofs.calls.body_failed.Reads as body_failed_reads
use Rattle.engine.specs.contracts.calls.abort_acknowledged
use Rattle.engine.proofs.calls.abort_acknowledged.Kinds as abort_acknowledged_kinds
use Rattle.engine.proofs.calls.abort_acknowledged.Reads as abort_acknowledged_reads
use Rattle.engine.specs.contracts.calls.password_given
use Rattle.engine.proofs.calls.password_given.Kinds as password_given_kinds
use Rattle.engine.proofs.calls.password_given.Reads as password_given_reads
use Rattle.engine.specs.contracts.calls.nonce_given
use Rattle.engine.proofs.calls.nonce_given.Kinds as nonce_given_kinds
use Rattle.engine.proofs.calls.nonce_given.Reads as nonce_given_reads
use Rattle.engine.specs.contracts.calls.start
use Rattle.engine.proofs.calls.start.Kinds as start_kinds
use Rattle.engine.proofs.calls.start.Reads as start_reads
use Rattle.engine.specs.contracts.calls.reply_given
use Rattle.engine.proofs.calls.reply_given.Kinds as reply_given_kinds
use Rattle.engine.proofs.calls.reply_given.Reads as reply_given_reads
use Rattle.engine.specs.contracts.calls.credentials_given
use Rattle.engine.proofs.calls.credentials_given.Kinds as credentials_given_kinds
use Rattle.engine.proofs.calls.credentials_given.Reads as credentials_given_reads
use Rattle.engine.specs.contracts.calls.connections_closed
use Rattle.engine.proofs.calls.connections_closed.Kinds as connections_closed_kinds
use Rattle.engine.proofs.calls.connections_closed.Reads as connections_closed_reads

-- the state before a call, with a table store
abbrev before : List ℕ → Engine → Stores → State
before t e s = record { engine = e; stores = s; tables = t }

pub start-says : (κs : Lfts 6) (a : ArgsD start.signature κs) (r : ResD start.signature κs) (x : AtExit (ended_of 6 start_kinds.ps start_kinds.r) κs)
    → start_reads.Learnt κs a r x
    → let p = a.1.1.1 in
    let q = x.1.1.1 in
    stepped r (stores q.0.now q.1.0.now q.1.1.0.now q.1.1.1.0.now)
    ≡ start_step a.0 a.1.0.now (stores p.0.now p.1.0.now p.1.1.0.now p.1.1.1.0.now) a.1.1.0.now
start-says κs a r x h = h

pub bytes-says : (κs : Lfts 6) (a : ArgsD bytes_offered.signature κs) (r : ResD bytes_offered.signature κs)
    (x : AtExit (ended_of 6 bytes_offered_kinds.ps bytes_offered_kinds.r) κs)
    → bytes_offered_reads.Learnt κs a r x
    → let t = a.1.1.1.0.now in
    let p = a.1.1.1.1 in
    let q = x.1.1.1.1 in
    let i = coming p.0.now a.0.begun a.1.0 a.1.1.0.now in
    Says (before t a.0 (stores p.0.now p.1.0.now p.1.1.0.now p.1.1.1.0.now))
    (bytes_offered_of i)
    (called (stepped r (stores q.0.now q.1.0.now q.1.1.0.now q.1.1.1.0.now)) t)
bytes-says κs a r x h = record { step = ap (λ (m : Stepped). called m a.1.1.1.0.now) h.0; octets = h.1 }

-- a call in an equal state and with equal arguments
says_as : {s u : State} {c d : Call} {m : Called} → s ≡ u → c ≡ d → Says s c m → Says u d m
says_as {s} {u} {c} {d} {m} e f h = subst (λ (k : Call). Says u k m) f (subst (λ (v : State). Says v c m) e h)

-- The call before left the packet store `p`. Whatever the host has written behind the bytes of an unfinished packet, the call is one of a run,
-- however many bytes it reports as placed there.
pub written-says : (p : List ℕ) (κs : Lfts 6) (a : ArgsD bytes_offered.signature κs) (r : ResD bytes_offered.signature κs)
    (x : AtExit (ended_of 6 bytes_offered_kinds.ps bytes_offered_kinds.r) κs)
    → bytes_offered_reads.Learnt κs a r x
    → let t = a.1.1.1.0.now in
    let b = a.0.begun in
    let y = a.1.1.1.1 in
    let q = x.1.1.1.1 in
    length y.0.now ≡ length p → take b y.0.now ≡ take b p
    → Says (writing (before t a.0 (stores p y.1.0.now y.1.1.0.now y.1.1.1.0.now)) (drop b y.0.now))
    (bytes_offered_of (coming y.0.now b a.1.0 a.1.1.0.now))
    (called (stepped r (stores q.0.now q.1.0.now q.1.1.0.now q.1.1.1.0.now)) t)
written-says p κs a r x h long front =
    let t = a.1.1.1.0.now in
    let y = a.1.1.1.1 in
    says_as
    (ap (λ (k : List ℕ). before t a.0 (stores k y.1.0.now y.1.1.0.now y.1.1.1.0.now))
    (sym (any_behind (before t a.0 (stores p y.1.0.now y.1.1.0.now y.1.1.1.0.now)) y.0.now long front)))
    refl (bytes-says κs a r x h)

-- If the host has written the bytes `i` there, as many as it reports as placed, the call offers these, and those of `input` behind them.
pub placed-says : (i p : List ℕ) (κs : Lfts 6) (a : ArgsD bytes_offered.signature κs) (r : ResD bytes_offered.signature κs)
    (x : AtExit (ended_of 6 bytes_offered_kinds.ps bytes_offered_kinds.r) κs)
    → bytes_offered_reads.Learnt κs a r x
    → let t = a.1.1.1.0.now in
    let y = a.1.1.1.1 in
    let q = x.1.1.1.1 in
    y.0.now ≡ sets p a.0.begun i → a.1.0 ≡ length i → a.0.begun + length i ≤ length p
    → Says (writing (before t a.0 (stores p y.1.0.now y.1.1.0.now y.1.1.1.0.now)) i)
    (bytes_offered_of (i ++ a.1.1.0.now))
    (called (stepped r (stores q.0.now q.1.0.now q.1.1.0.now q.1.1.1.0.now)) t)
placed-says i p κs a r x h put count room =
    let t = a.1.1.1.0.now in
    let b = a.0.begun in
    let y = a.1.1.1.1 in
    let k = a.1.1.0.now in
    says_as (ap (λ (l : List ℕ). before t a.0 (stores l y.1.0.now y.1.1.0.now y.1.1.1.0.now)) put)
    (ap bytes_offered_of
    (ap (λ (l : List ℕ). coming l b a.1.0 k) put
    ∙ ap (λ (n : ℕ). coming (sets p b i) b n k) count
    ∙ ap (λ (l : List ℕ). l ++ k) (placed-there i p b room)))
    (bytes-says κs a r x h)

pub stream_ended-says : (t : List ℕ) (κs : Lfts 4) (a : ArgsD stream_ended.signature κs) (r : ResD stream_ended.signature κs) (x : AtExit (ended_of 4 stream_ended_kinds.ps stream_ended_kinds.r) κs)
    → stream_ended_reads.Learnt κs a r x
    → let p = a.1 in
    let q = x.1 in
    Says (before t a.0 (stores p.0.now p.1.0.now p.1.1.0.now p.1.1.1.0.now))
    stream_ended_of
    (called (stepped r (stores q.0.now q.1.0.now q.1.1.0.now q.1.1.1.0.now)) t)
stream_ended-says t κs a r x h = record { step = ap (λ (m : Stepped). called m t) h; octets = tt }

pub reply-taken-says : (t : List ℕ) (κs : Lfts 4) (a : ArgsD reply_taken.signature κs) (r : ResD reply_taken.signature κs) (x : AtExit (ended_of 4 reply_taken_kinds.ps reply_taken_kinds.r) κs)
    → reply_taken_reads.Learnt κs a r x
    → let p = a.1 in
    let q = x.1 in
    Says (before t a.0 (stores p.0.now p.1.0.now p.1.1.0.now p.1.1.1.0.now))
    reply_taken_of
    (called (stepped r (stores q.0.now q.1.0.now q.1.1.0.now q.1.1.1.0.now)) t)
reply-taken-says t κs a r x h = record { step = ap (λ (m : Stepped). called m t) h; octets = tt }

pub object-says : (t : List ℕ) (κs : Lfts 5) (a : ArgsD object_given.signature κs) (r : ResD object_given.signature κs) (x : AtExit (ended_of 5 object_given_kinds.ps object_given_kinds.r) κs)
    → object_given_reads.Learnt κs a r x
    → let p = a.1.1.1 in
    let q = x.1.1.1 in
    Says (before t a.0 (stores p.0.now p.1.0.now p.1.1.0.now p.1.1.1.0.now))
    (object_given_of a.1.0.now a.1.1.0)
    (called (stepped r (stores q.0.now q.1.0.now q.1.1.0.now q.1.1.1.0.now)) t)
object-says t κs a r x h = record { step = ap (λ (m : Stepped). called m t) h; octets = tt }

pub body-says : (t : List ℕ) (κs : Lfts 5) (a : ArgsD body_given.signature κs) (r : ResD body_given.signature κs) (x : AtExit (ended_of 5 body_given_kinds.ps body_given_kinds.r) κs)
    → body_given_reads.Learnt κs a r x
    → let p = a.1.1 in
    let q = x.1.1 in
    Says (before t a.0 (stores p.0.now p.1.0.now p.1.1.0.now p.1.1.1.0.now))
    (body_given_of a.1.0.now)
    (called (stepped r (stores q.0.now q.1.0.now q.1.1.0.now q.1.1.1.0.now)) t)
body-says t κs a r x h = record { step = ap (λ (m : Stepped). called m t) h; octets = tt }

pub body_failed_says : (t : List ℕ) (κs : Lfts 4) (a : ArgsD body_failed.signature κs) (r : ResD body_failed.signature κs) (x : AtExit (ended_of 4 body_failed_kinds.ps body_failed_kinds.r) κs)
    → body_failed_reads.Learnt κs a r x
    → let p = a.1 in
    let q = x.1 in
    Says (before t a.0 (stores p.0.now p.1.0.now p.1.1.0.now p.1.1.1.0.now))
    body_failed_of
    (called (stepped r (stores q.0.now q.1.0.now q.1.1.0.now q.1.1.1.0.now)) t)
body_failed_says t κs a r x h = record { step = ap (λ (m : Stepped). called m t) h; octets = tt }

pub acknowledge_says : (t : List ℕ) (κs : Lfts 4) (a : ArgsD abort_acknowledged.signature κs) (r : ResD abort_acknowledged.signature κs) (x : AtExit (ended_of 4 abort_acknowledged_kinds.ps abort_acknowledged_kinds.r) κs)
    → abort_acknowledged_reads.Learnt κs a r x
    → let p = a.1 in
    let q = x.1 in
    Says (before t a.0 (stores p.0.now p.1.0.now p.1.1.0.now p.1.1.1.0.now))
    abort_acknowledged_of
    (called (stepped r (stores q.0.now q.1.0.now q.1.1.0.now q.1.1.1.0.now)) t)
acknowledge_says t κs a r x h = record { step = ap (λ (m : Stepped). called m t) h; octets = tt }

pub password-says : (t : List ℕ) (κs : Lfts 5) (a : ArgsD password_given.signature κs) (r : ResD password_given.signature κs) (x : AtExit (ended_of 5 password_given_kinds.ps password_given_kinds.r) κs)
    → password_given_reads.Learnt κs a r x
    → let p = a.1.1.1 in
    let q = x.1.1.1 in
    Says (before t a.0 (stores p.0.now p.1.0.now p.1.1.0.now p.1.1.1.0.now))
    (password_given_of (given a.1.0 a.1.1.0.now))
    (called (stepped r (stores q.0.now q.1.0.now q.1.1.0.now q.1.1.1.0.now)) t)
password-says t κs a r x h = record { step = ap (λ (m : Stepped). called m t) h; octets = tt }

pub nonce-says : (κs : Lfts 6) (a : ArgsD nonce_given.signature κs) (r : ResD nonce_given.signature κs)
    (x : AtExit (ended_of 6 nonce_given_kinds.ps nonce_given_kinds.r) κs)
    → nonce_given_reads.Learnt κs a r x
    → let p = a.1.1.1 in
    let q = x.1.1.1 in
    Says (before p.0.now a.0 (stores p.1.0.now p.1.1.0.now p.1.1.1.0.now p.1.1.1.1.0.now))
    (nonce_given_of a.1.0 a.1.1.0.now)
    (called (stepped r (stores q.1.0.now q.1.1.0.now q.1.1.1.0.now q.1.1.1.1.0.now)) q.0.now)
nonce-says κs a r x h = record { step = h; octets = tt }

pub reply-says : (κs : Lfts 6) (a : ArgsD reply_given.signature κs) (r : ResD reply_given.signature κs)
    (x : AtExit (ended_of 6 reply_given_kinds.ps reply_given_kinds.r) κs)
    → reply_given_reads.Learnt κs a r x
    → let p = a.1.1.1 in
    let q = x.1.1.1 in
    Says (before p.0.now a.0 (stores p.1.0.now p.1.1.0.now p.1.1.1.0.now p.1.1.1.1.0.now))
    (reply_given_of a.1.0 a.1.1.0.now)
    (called (stepped r (stores q.1.0.now q.1.1.0.now q.1.1.1.0.now q.1.1.1.1.0.now)) q.0.now)
reply-says κs a r x h = record { step = h; octets = tt }

pub credentials-says : (t : List ℕ) (κs : Lfts 6) (a : ArgsD credentials_given.signature κs) (r : ResD credentials_given.signature κs) (x : AtExit (ended_of 6 credentials_given_kinds.ps credentials_given_kinds.r) κs)
    → credentials_given_reads.Learnt κs a r x
    → let p = a.1.1.1.1.1 in
    let q = x.1.1.1.1.1 in
    let c = credentials_of a.1.0 (given a.1.1.0 a.1.1.1.0.now) a.1.1.1.1.0.now in
    Says (before t a.0 (stores p.0.now p.1.0.now p.1.1.0.now p.1.1.1.0.now))
    (credentials_given_of c)
    (called (stepped r (stores q.0.now q.1.0.now q.1.1.0.now q.1.1.1.0.now)) t)
credentials-says t κs a r x h = record { step = ap (λ (m : Stepped). called m t) h; octets = tt }

-- the call is lent the table store alone, so its line holds for every four stores that the host keeps beside it
pub connections_closed-says : (s : Stores) (κs : Lfts 2) (a : ArgsD connections_closed.signature κs) (r : ResD connections_closed.signature κs)
    (x : AtExit (ended_of 2 connections_closed_kinds.ps connections_closed_kinds.r) κs)
    → connections_closed_reads.Learnt κs a r x
    → Says (before a.1.1.0.now a.0 s) (connections_closed_of a.1.0.now) (called (stepped r s) x.1.1.0.now)
connections_closed-says s κs a r x h = record { step = ap (beside (before a.1.1.0.now a.0 s)) h; octets = tt }
