-- The record that was handed over last, and what the frames behind it say of it (docs/AUDIT.md): what the client was answered, whether the reply
-- was sent, and the frame `file`. An answer, a reply or a frame `file` behind the next packet does not belong to it.
use Rattle.std.specs.Prelude.{ℕ, ◌+◌, Bool, true, false, ◌&&◌, ◌||◌, List, length, replicate, ◌==◌, nat_lt}
use Rattle.base.specs.Pick.{pick}
use Rattle.table.specs.Targets.{unnamed}
use Rattle.table.specs.declared.targets.Target.{Target}
use Rattle.filing.specs.Kinds.{kind_number}
use Rattle.filing.specs.declared.frame.Kind.TheVariants.{Recv, Part as PartKind, File}
use Rattle.filing.specs.declared.entry.EntryRead.{EntryRead}
use Rattle.filing.specs.declared.entry.EntryRead.TheVariants as says
use Rattle.journal_code.specs.declared.state.State.{State}
use Rattle.lines.specs.Output.{put_bytes}
use Rattle.audit.specs.declared.place.Here.{Here}
use Rattle.audit.specs.declared.waiting.Phase.{Phase}
use Rattle.audit.specs.declared.waiting.Phase.TheVariants.{Nothing, Waiting as Waits, Over}
use Rattle.audit.specs.declared.waiting.FileFrame.{FileFrame}
use Rattle.audit.specs.declared.waiting.Waiting.{Waiting}

-- The one definition that lists the fields; it is shut, so that proofs do not write them all out.
unfoldable pub waiting_with : Phase → ℕ → ℕ → Bool → Target → ℕ → Bool → FileFrame → Waiting
waiting_with p k b c t code told f =
    record { phase = p; kept = k; body = b; came = c; target = t; code = code; is_told = told; file = f }

-- No frame `file`.
unfoldable pub no_file : FileFrame
no_file =
    record {
      is_there = false;
      size = 0;
      row = replicate 80 0;
      place = record { clock = 0; frame = 0; bytes = 0 };
      check = record { first = 0; second = 0 };
    }

-- The frame `file` `h` with the payload `p`: the first 80 bytes of that are kept.
unfoldable pub file_at : Here → List ℕ → FileFrame
file_at h p =
    record {
      is_there = true;
      size = length p;
      row = (put_bytes (replicate 80 0) 0 p).bytes;
      place = record { clock = h.clock; frame = h.number; bytes = h.bytes };
      check = h.check;
    }

-- No record: 256 is the code of one that was not answered.
abbrev pub nothing_waiting : Waiting
nothing_waiting = waiting_with Nothing 0 0 false unnamed 256 false no_file

-- The record that was handed over with the state `s`.
abbrev pub handed_over : State → Waiting
handed_over s = waiting_with Waits s.gathered.kept s.gathered.body s.gathered.came s.target 256 false no_file

-- It was answered with `code`.
abbrev pub with_code : Waiting → ℕ → Waiting
with_code w code = waiting_with w.phase w.kept w.body w.came w.target code w.is_told w.file

-- A code with its top bit set, as it stands in a reply.
unfoldable pub topped : ℕ → ℕ
topped code = pick (nat_lt code 128) (code + 128) code

-- A reply was sent whose first byte is `b`: the client was told if that is the reply to the record.
abbrev pub with_reply : Waiting → ℕ → Waiting
with_reply w b = waiting_with Over w.kept w.body w.came w.target w.code (topped w.code == b) w.file

-- A frame `file` was read.
abbrev pub with_file : Waiting → Here → List ℕ → Waiting
with_file w h p = waiting_with w.phase w.kept w.body w.came w.target w.code w.is_told (file_at h p)

-- It is in the phase `p`.
abbrev pub with_phase : Waiting → Phase → Waiting
with_phase w p = waiting_with p w.kept w.body w.came w.target w.code w.is_told w.file

-- A frame that is neither an answer nor a reply.
abbrev pub noted_beside : Waiting → Here → List ℕ → Waiting
noted_beside w h p = pick (h.letters == kind_number File) (with_file w h p) w

-- A frame that hands nothing over.
abbrev pub noted : Waiting → EntryRead → Here → List ℕ → Waiting
noted w says.Packet h p = noted_beside w h p
noted w (says.Reply b) h p = with_reply w b
noted w (says.Answer code) h p = with_code w code
noted w says.Object h p = noted_beside w h p
noted w (says.Check right) h p = noted_beside w h p
noted w says.Nonce h p = noted_beside w h p
noted w says.Ids h p = noted_beside w h p
noted w says.End h p = noted_beside w h p
noted w says.Nothing h p = noted_beside w h p

-- A record waits.
abbrev pub is_waiting : Phase → Bool
is_waiting Nothing = false
is_waiting Waits = true
is_waiting Over = false

-- A record is to be judged.
abbrev pub is_over : Phase → Bool
is_over Nothing = false
is_over Waits = false
is_over Over = true

-- A frame with these letters brings bytes of the client.
abbrev pub has_bytes : ℕ → Bool
has_bytes l = l == kind_number Recv || l == kind_number PartKind

-- A record is to be judged before a frame with these letters is taken.
abbrev pub must_settle : Phase → ℕ → Bool
must_settle p l = is_waiting p && has_bytes l

-- A frame handed a record over: it brought bytes of the client, and the state after it says so.
abbrev pub is_handed : EntryRead → Bool → Bool
is_handed says.Packet handed = handed
is_handed (says.Reply b) handed = false
is_handed (says.Answer code) handed = false
is_handed says.Object handed = false
is_handed (says.Check right) handed = false
is_handed says.Nonce handed = false
is_handed says.Ids handed = false
is_handed says.End handed = false
is_handed says.Nothing handed = false

-- The record that waits after the frame `h` with the payload `p`, which left the state `s`.
abbrev pub waiting_after : Waiting → State → EntryRead → Here → List ℕ → Waiting
waiting_after w s e h p = pick (is_handed e s.handed) (handed_over s) (pick (is_waiting w.phase) (noted w e h p) w)
