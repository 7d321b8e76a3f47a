-- What a caller learns from each export's contract is what `RanOn` and `AcceptedOn` ask of a run, so `exports_refuse` and `exports_send` speak of
-- the exports' own clauses. `Learnt` is the reading of an `ensures` clause that the check makes: a contract that stops saying what a claim
-- needs breaks its line here. Assumes nothing.
use mathlib.Core.Path.{◌≡◌}
use contract.Lifetimes.{Lfts}
use denote.Triple.Clauses.{AtExit}
use borrow.Fn.World.{ArgsD, ResD}
use borrow.Fn.Kinds.{ended_of}
use Rattle.client_model.specs.declared.Outcome.TheVariants as outcome
use Rattle.client_model.specs.Step.{stores}
use Rattle.client_model.specs.Refusals as due
use Rattle.client_model.specs.ContractClaims.{Says}
use Rattle.client_c.specs.Words.{client_of, result_of}
use Rattle.client_c.specs.Theorem.{exported, performed_by, AcceptedOn}
use Rattle.client_c.specs.contracts.obex_client_start
use Rattle.client_c.proofs.obex_client_start.Kinds as start_kinds
use Rattle.client_c.proofs.obex_client_start.Reads as start_reads
use Rattle.client_c.specs.contracts.obex_client_connect
use Rattle.client_c.proofs.obex_client_connect.Kinds as connect_kinds
use Rattle.client_c.proofs.obex_client_connect.Reads as connect_reads
use Rattle.client_c.specs.contracts.obex_client_disconnect
use Rattle.client_c.proofs.obex_client_disconnect.Kinds as disconnect_kinds
use Rattle.client_c.proofs.obex_client_disconnect.Reads as disconnect_reads
use Rattle.client_c.specs.contracts.obex_client_put
use Rattle.client_c.proofs.obex_client_put.Kinds as put_kinds
use Rattle.client_c.proofs.obex_client_put.Reads as put_reads
use Rattle.client_c.specs.contracts.obex_client_get
use Rattle.client_c.proofs.obex_client_get.Kinds as get_kinds
use Rattle.client_c.proofs.obex_client_get.Reads as get_reads
use Rattle.client_c.specs.contracts.obex_client_request_sent
use Rattle.client_c.proofs.obex_client_request_sent.Kinds as request_sent_kinds
use Rattle.client_c.proofs.obex_client_request_sent.Reads as request_sent_reads
use Rattle.client_c.specs.contracts.obex_client_body_given
use Rattle.client_c.proofs.obex_client_body_given.Kinds as body_given_kinds
use Rattle.client_c.proofs.obex_client_body_given.Reads as body_given_reads
use Rattle.client_c.specs.contracts.obex_client_part_taken
use Rattle.client_c.proofs.obex_client_part_taken.Kinds as part_taken_kinds
use Rattle.client_c.proofs.obex_client_part_taken.Reads as part_taken_reads
use Rattle.client_c.specs.contracts.obex_client_abort
use Rattle.client_c.proofs.obex_client_abort.Kinds as abort_kinds
use Rattle.client_c.proofs.obex_client_abort.Reads as abort_reads
use Rattle.client_c.specs.contracts.obex_client_bytes_offered
use Rattle.client_c.proofs.obex_client_bytes_offered.Kinds as bytes_offered_kinds
use Rattle.client_c.proofs.obex_client_bytes_offered.Reads as bytes_offered_reads
use Rattle.client_c.specs.contracts.obex_client_stream_ended
use Rattle.client_c.proofs.obex_client_stream_ended.Kinds as stream_ended_kinds
use Rattle.client_c.proofs.obex_client_stream_ended.Reads as stream_ended_reads

pub start-says : (κs : Lfts 5) (a : ArgsD obex_client_start.signature κs) (r : ResD obex_client_start.signature κs)
    (x : AtExit (ended_of 5 start_kinds.ps start_kinds.r) κs)
    → start_reads.Learnt κs a r x
    → let p = a.1 in
    let q = x.1 in
    (result_of x.0.now).outcome ≡ outcome.Ready
    → AcceptedOn a.0.now (stores p.0.now p.1.0.now p.1.1.0.now p.1.1.1.0.now) x.0.now
    (stores q.0.now q.1.0.now q.1.1.0.now q.1.1.1.0.now)
start-says κs a r x h e = record { says = h.0; accepted = e }

pub connect_says : (κs : Lfts 6) (a : ArgsD obex_client_connect.signature κs) (r : ResD obex_client_connect.signature κs)
    (x : AtExit (ended_of 6 connect_kinds.ps connect_kinds.r) κs)
    → connect_reads.Learnt κs a r x
    → let p = a.1.1 in
    let q = x.1.1 in
    Says (client_of a.0.now) (stores p.0.now p.1.0.now p.1.1.0.now p.1.1.1.0.now)
    (performed_by (exported (due.connect a.1.0.now) x.0.now
    (stores q.0.now q.1.0.now q.1.1.0.now q.1.1.1.0.now)))
connect_says κs a r x h = record { step = h.0; octets = tt }

pub disconnect_says : (κs : Lfts 6) (a : ArgsD obex_client_disconnect.signature κs) (r : ResD obex_client_disconnect.signature κs)
    (x : AtExit (ended_of 6 disconnect_kinds.ps disconnect_kinds.r) κs)
    → disconnect_reads.Learnt κs a r x
    → let p = a.1.1 in
    let q = x.1.1 in
    Says (client_of a.0.now) (stores p.0.now p.1.0.now p.1.1.0.now p.1.1.1.0.now)
    (performed_by (exported (due.disconnect a.1.0.now) x.0.now
    (stores q.0.now q.1.0.now q.1.1.0.now q.1.1.1.0.now)))
disconnect_says κs a r x h = record { step = h.0; octets = tt }

pub put-says : (κs : Lfts 6) (a : ArgsD obex_client_put.signature κs) (r : ResD obex_client_put.signature κs)
    (x : AtExit (ended_of 6 put_kinds.ps put_kinds.r) κs)
    → put_reads.Learnt κs a r x
    → let p = a.1.1.1 in
    let q = x.1.1.1 in
    Says (client_of a.0.now) (stores p.0.now p.1.0.now p.1.1.0.now p.1.1.1.0.now)
    (performed_by (exported (due.put a.1.0.now a.1.1.0) x.0.now
    (stores q.0.now q.1.0.now q.1.1.0.now q.1.1.1.0.now)))
put-says κs a r x h = record { step = h.0; octets = tt }

pub get_says : (κs : Lfts 6) (a : ArgsD obex_client_get.signature κs) (r : ResD obex_client_get.signature κs)
    (x : AtExit (ended_of 6 get_kinds.ps get_kinds.r) κs)
    → get_reads.Learnt κs a r x
    → let p = a.1.1 in
    let q = x.1.1 in
    Says (client_of a.0.now) (stores p.0.now p.1.0.now p.1.1.0.now p.1.1.1.0.now)
    (performed_by (exported (due.get a.1.0.now) x.0.now
    (stores q.0.now q.1.0.now q.1.1.0.now q.1.1.1.0.now)))
get_says κs a r x h = record { step = h.0; octets = tt }

pub request-sent-says : (κs : Lfts 5) (a : ArgsD obex_client_request_sent.signature κs) (r : ResD obex_client_request_sent.signature κs)
    (x : AtExit (ended_of 5 request_sent_kinds.ps request_sent_kinds.r) κs)
    → request_sent_reads.Learnt κs a r x
    → let p = a.1 in
    let q = x.1 in
    Says (client_of a.0.now) (stores p.0.now p.1.0.now p.1.1.0.now p.1.1.1.0.now)
    (performed_by (exported due.requestSent x.0.now
    (stores q.0.now q.1.0.now q.1.1.0.now q.1.1.1.0.now)))
request-sent-says κs a r x h = record { step = h.0; octets = tt }

pub body-given-says : (κs : Lfts 6) (a : ArgsD obex_client_body_given.signature κs) (r : ResD obex_client_body_given.signature κs)
    (x : AtExit (ended_of 6 body_given_kinds.ps body_given_kinds.r) κs)
    → body_given_reads.Learnt κs a r x
    → let p = a.1.1 in
    let q = x.1.1 in
    Says (client_of a.0.now) (stores p.0.now p.1.0.now p.1.1.0.now p.1.1.1.0.now)
    (performed_by (exported (due.body_given_of a.1.0.now) x.0.now
    (stores q.0.now q.1.0.now q.1.1.0.now q.1.1.1.0.now)))
body-given-says κs a r x h = record { step = h.0; octets = tt }

pub part-taken-says : (κs : Lfts 5) (a : ArgsD obex_client_part_taken.signature κs) (r : ResD obex_client_part_taken.signature κs)
    (x : AtExit (ended_of 5 part_taken_kinds.ps part_taken_kinds.r) κs)
    → part_taken_reads.Learnt κs a r x
    → let p = a.1 in
    let q = x.1 in
    Says (client_of a.0.now) (stores p.0.now p.1.0.now p.1.1.0.now p.1.1.1.0.now)
    (performed_by (exported due.partTaken x.0.now
    (stores q.0.now q.1.0.now q.1.1.0.now q.1.1.1.0.now)))
part-taken-says κs a r x h = record { step = h.0; octets = tt }

pub abort_says : (κs : Lfts 5) (a : ArgsD obex_client_abort.signature κs) (r : ResD obex_client_abort.signature κs)
    (x : AtExit (ended_of 5 abort_kinds.ps abort_kinds.r) κs)
    → abort_reads.Learnt κs a r x
    → let p = a.1 in
    let q = x.1 in
    Says (client_of a.0.now) (stores p.0.now p.1.0.now p.1.1.0.now p.1.1.1.0.now)
    (performed_by (exported due.abort x.0.now
    (stores q.0.now q.1.0.now q.1.1.0.now q.1.1.1.0.now)))
abort_says κs a r x h = record { step = h.0; octets = tt }

pub bytes-offered-says : (κs : Lfts 6) (a : ArgsD obex_client_bytes_offered.signature κs) (r : ResD obex_client_bytes_offered.signature κs)
    (x : AtExit (ended_of 6 bytes_offered_kinds.ps bytes_offered_kinds.r) κs)
    → bytes_offered_reads.Learnt κs a r x
    → let p = a.1.1 in
    let q = x.1.1 in
    Says (client_of a.0.now) (stores p.0.now p.1.0.now p.1.1.0.now p.1.1.1.0.now)
    (performed_by (exported (due.bytes_offered_of a.1.0.now) x.0.now
    (stores q.0.now q.1.0.now q.1.1.0.now q.1.1.1.0.now)))
bytes-offered-says κs a r x h = record { step = h.0; octets = h.1.1 }

pub stream_ended-says : (κs : Lfts 5) (a : ArgsD obex_client_stream_ended.signature κs) (r : ResD obex_client_stream_ended.signature κs)
    (x : AtExit (ended_of 5 stream_ended_kinds.ps stream_ended_kinds.r) κs)
    → stream_ended_reads.Learnt κs a r x
    → let p = a.1 in
    let q = x.1 in
    Says (client_of a.0.now) (stores p.0.now p.1.0.now p.1.1.0.now p.1.1.1.0.now)
    (performed_by (exported due.stream_ended_of x.0.now
    (stores q.0.now q.1.0.now q.1.1.0.now q.1.1.1.0.now)))
stream_ended-says κs a r x h = record { step = h.0; octets = tt }
