-- What a caller learns from each call's contract is what `Says` asks of a run, so `contracts_refuse` and `contracts_send` of client_model speak
-- of the functions' own clauses. `Learnt` is the reading of an `ensures` clause that the check makes: a
-- contract that stops saying what a theorem on the client needs breaks its line here. Assumes nothing.
use mathlib.Core.Path.{◌≡◌}
use contract.Lifetimes.{Lfts}
use denote.Triple.Clauses.{AtExit}
use borrow.Fn.World.{ArgsD, ResD}
use borrow.Fn.Kinds.{ended_of}
use Rattle.incoming.specs.Frame.{coming}
use Rattle.client_model.specs.Step.{stores, stepped}
use Rattle.client_model.specs.Calls.{start_step}
use Rattle.client_model.specs.Refusals as due
use Rattle.client_model.specs.ContractClaims.{performed, Says}
use Rattle.client.specs.contracts.calls.start
use Rattle.client.proofs.calls.start.Kinds as start_kinds
use Rattle.client.proofs.calls.start.Reads as start_reads
use Rattle.client.specs.contracts.calls.connect
use Rattle.client.proofs.calls.connect.Kinds as connect_kinds
use Rattle.client.proofs.calls.connect.Reads as connect_reads
use Rattle.client.specs.contracts.calls.disconnect
use Rattle.client.proofs.calls.disconnect.Kinds as disconnect_kinds
use Rattle.client.proofs.calls.disconnect.Reads as disconnect_reads
use Rattle.client.specs.contracts.calls.put
use Rattle.client.proofs.calls.put.Kinds as put_kinds
use Rattle.client.proofs.calls.put.Reads as put_reads
use Rattle.client.specs.contracts.calls.get
use Rattle.client.proofs.calls.get.Kinds as get_kinds
use Rattle.client.proofs.calls.get.Reads as get_reads
use Rattle.client.specs.contracts.calls.request_sent
use Rattle.client.proofs.calls.request_sent.Kinds as request_sent_kinds
use Rattle.client.proofs.calls.request_sent.Reads as request_sent_reads
use Rattle.client.specs.contracts.calls.body_given
use Rattle.client.proofs.calls.body_given.Kinds as body_given_kinds
use Rattle.client.proofs.calls.body_given.Reads as body_given_reads
use Rattle.client.specs.contracts.calls.part_taken
use Rattle.client.proofs.calls.part_taken.Kinds as part_taken_kinds
use Rattle.client.proofs.calls.part_taken.Reads as part_taken_reads
use Rattle.client.specs.contracts.calls.abort
use Rattle.client.proofs.calls.abort.Kinds as abort_kinds
use Rattle.client.proofs.calls.abort.Reads as abort_reads
use Rattle.client.specs.contracts.calls.bytes_offered
use Rattle.client.proofs.calls.bytes_offered.Kinds as bytes_offered_kinds
use Rattle.client.proofs.calls.bytes_offered.Reads as bytes_offered_reads
use Rattle.client.specs.contracts.calls.stream_ended
use Rattle.client.proofs.calls.stream_ended.Kinds as stream_ended_kinds
use Rattle.client.proofs.calls.stream_ended.Reads as stream_ended_reads

pub start-says : (κs : Lfts 4) (a : ArgsD start.signature κs) (r : ResD start.signature κs) (x : AtExit (ended_of 4 start_kinds.ps start_kinds.r) κs)
    → start_reads.Learnt κs a r x
    → let p = a.1 in
    let q = x.1 in
    stepped r (stores q.0.now q.1.0.now q.1.1.0.now q.1.1.1.0.now)
    ≡ start_step a.0 (stores p.0.now p.1.0.now p.1.1.0.now p.1.1.1.0.now)
start-says κs a r x h = h

pub connect_says : (κs : Lfts 5) (a : ArgsD connect.signature κs) (r : ResD connect.signature κs)
    (x : AtExit (ended_of 5 connect_kinds.ps connect_kinds.r) κs)
    → connect_reads.Learnt κs a r x
    → let p = a.1.1 in
    let q = x.1.1 in
    Says a.0 (stores p.0.now p.1.0.now p.1.1.0.now p.1.1.1.0.now)
    (performed (due.connect a.1.0.now) r (stores q.0.now q.1.0.now q.1.1.0.now q.1.1.1.0.now))
connect_says κs a r x h = record { step = h; octets = tt }

pub disconnect_says : (κs : Lfts 5) (a : ArgsD disconnect.signature κs) (r : ResD disconnect.signature κs)
    (x : AtExit (ended_of 5 disconnect_kinds.ps disconnect_kinds.r) κs)
    → disconnect_reads.Learnt κs a r x
    → let p = a.1.1 in
    let q = x.1.1 in
    Says a.0 (stores p.0.now p.1.0.now p.1.1.0.now p.1.1.1.0.now)
    (performed (due.disconnect a.1.0.now) r (stores q.0.now q.1.0.now q.1.1.0.now q.1.1.1.0.now))
disconnect_says κs a r x h = record { step = h; octets = tt }

pub put-says : (κs : Lfts 5) (a : ArgsD put.signature κs) (r : ResD put.signature κs) (x : AtExit (ended_of 5 put_kinds.ps put_kinds.r) κs)
    → put_reads.Learnt κs a r x
    → let p = a.1.1.1 in
    let q = x.1.1.1 in
    Says a.0 (stores p.0.now p.1.0.now p.1.1.0.now p.1.1.1.0.now)
    (performed (due.put a.1.0.now a.1.1.0) r (stores q.0.now q.1.0.now q.1.1.0.now q.1.1.1.0.now))
put-says κs a r x h = record { step = h; octets = tt }

pub get_says : (κs : Lfts 5) (a : ArgsD get.signature κs) (r : ResD get.signature κs) (x : AtExit (ended_of 5 get_kinds.ps get_kinds.r) κs)
    → get_reads.Learnt κs a r x
    → let p = a.1.1 in
    let q = x.1.1 in
    Says a.0 (stores p.0.now p.1.0.now p.1.1.0.now p.1.1.1.0.now)
    (performed (due.get a.1.0.now) r (stores q.0.now q.1.0.now q.1.1.0.now q.1.1.1.0.now))
get_says κs a r x h = record { step = h; octets = tt }

pub request-sent-says : (κs : Lfts 4) (a : ArgsD request_sent.signature κs) (r : ResD request_sent.signature κs)
    (x : AtExit (ended_of 4 request_sent_kinds.ps request_sent_kinds.r) κs)
    → request_sent_reads.Learnt κs a r x
    → let p = a.1 in
    let q = x.1 in
    Says a.0 (stores p.0.now p.1.0.now p.1.1.0.now p.1.1.1.0.now)
    (performed due.requestSent r (stores q.0.now q.1.0.now q.1.1.0.now q.1.1.1.0.now))
request-sent-says κs a r x h = record { step = h; octets = tt }

pub body-given-says : (κs : Lfts 5) (a : ArgsD body_given.signature κs) (r : ResD body_given.signature κs)
    (x : AtExit (ended_of 5 body_given_kinds.ps body_given_kinds.r) κs)
    → body_given_reads.Learnt κs a r x
    → let p = a.1.1 in
    let q = x.1.1 in
    Says a.0 (stores p.0.now p.1.0.now p.1.1.0.now p.1.1.1.0.now)
    (performed (due.body_given_of a.1.0.now) r (stores q.0.now q.1.0.now q.1.1.0.now q.1.1.1.0.now))
body-given-says κs a r x h = record { step = h; octets = tt }

pub part-taken-says : (κs : Lfts 4) (a : ArgsD part_taken.signature κs) (r : ResD part_taken.signature κs)
    (x : AtExit (ended_of 4 part_taken_kinds.ps part_taken_kinds.r) κs)
    → part_taken_reads.Learnt κs a r x
    → let p = a.1 in
    let q = x.1 in
    Says a.0 (stores p.0.now p.1.0.now p.1.1.0.now p.1.1.1.0.now)
    (performed due.partTaken r (stores q.0.now q.1.0.now q.1.1.0.now q.1.1.1.0.now))
part-taken-says κs a r x h = record { step = h; octets = tt }

pub abort_says : (κs : Lfts 4) (a : ArgsD abort.signature κs) (r : ResD abort.signature κs) (x : AtExit (ended_of 4 abort_kinds.ps abort_kinds.r) κs)
    → abort_reads.Learnt κs a r x
    → let p = a.1 in
    let q = x.1 in
    Says a.0 (stores p.0.now p.1.0.now p.1.1.0.now p.1.1.1.0.now)
    (performed due.abort r (stores q.0.now q.1.0.now q.1.1.0.now q.1.1.1.0.now))
abort_says κs a r x h = record { step = h; octets = tt }

pub bytes-offered-says : (κs : Lfts 5) (a : ArgsD bytes_offered.signature κs) (r : ResD bytes_offered.signature κs)
    (x : AtExit (ended_of 5 bytes_offered_kinds.ps bytes_offered_kinds.r) κs)
    → bytes_offered_reads.Learnt κs a r x
    → let p = a.1.1.1 in
    let q = x.1.1.1 in
    Says a.0 (stores p.0.now p.1.0.now p.1.1.0.now p.1.1.1.0.now)
    (performed (due.bytes_offered_of (coming p.0.now a.0.begun a.1.0 a.1.1.0.now)) r (stores q.0.now q.1.0.now q.1.1.0.now q.1.1.1.0.now))
bytes-offered-says κs a r x h = record { step = h.0; octets = h.1 }

pub stream_ended-says : (κs : Lfts 4) (a : ArgsD stream_ended.signature κs) (r : ResD stream_ended.signature κs)
    (x : AtExit (ended_of 4 stream_ended_kinds.ps stream_ended_kinds.r) κs)
    → stream_ended_reads.Learnt κs a r x
    → let p = a.1 in
    let q = x.1 in
    Says a.0 (stores p.0.now p.1.0.now p.1.1.0.now p.1.1.1.0.now)
    (performed due.stream_ended_of r (stores q.0.now q.1.0.now q.1.1.0.now q.1.1.1.0.now))
stream_ended-says κs a r x h = record { step = h; octets = tt }
