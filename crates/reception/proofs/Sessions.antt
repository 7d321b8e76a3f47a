-- What holds of a session: its turns are a run of a receiver, of which the theorem speaks, and its log is that of the run. Assumes nothing.
use Prim.Native.Nat.{ℕ}
use mathlib.Core.List.{List, [], ◌++◌}
use Rattle.server.specs.declared.Settings.{Settings}
use Rattle.model.specs.Runs.{State}
use Rattle.filing.specs.Frame.{Content}
use Rattle.reception.specs.Notes.{pending}
use Rattle.reception.specs.Turns.{ReceiverTurn, calls_made, attempts_of, state_after, waits_after, entries_made, held_in}
use Rattle.reception.specs.Tells.{Logged, Session, SessionsHold}
use Rattle.reception.proofs.Files.{receiver_files}
use Rattle.reception.proofs.Tells.{log-tells, cut-tells}
use Rattle.reception.proofs.Joined.{turns_receive}

logged : (st : Settings) (s : State) (ts : List ReceiverTurn) (t : ℕ) (more : List ℕ) (cs : List Content) → Session st s ts t more cs
    → Logged st t more cs (attempts_of ts) (waits_after [] s ts)
logged st s ts t more cs h =
    let r = turns_receive st s h.start ts h.turns in
    record {
      s = s;
      start = h.start;
      xs = calls_made s ts;
      ran = r.ran;
      received = r.received;
      kept = h.kept;
      es = entries_made s ts ++ pending (held_in (state_after s ts));
      joins = r.joins;
      encodes = h.encodes;
      limit = h.limit;
      fits = h.fits;
      few = h.few;
    }

pub sessions_hold : SessionsHold
sessions_hold st s ts t more cs h =
    let r = turns_receive st s h.start ts h.turns in
    let l = logged st s ts t more cs h in
    record {
      files = receiver_files st s h.start (calls_made s ts) r.ran (attempts_of ts) (waits_after [] s ts) r.received h.kept;
      tells = log-tells st t more cs (attempts_of ts) (waits_after [] s ts) l;
      cut = λ n. cut-tells st t more cs (attempts_of ts) (waits_after [] s ts) l n;
    }
