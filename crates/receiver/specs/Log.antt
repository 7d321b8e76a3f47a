-- The log as its file gets it: each frame behind the check of the one before.
use Rattle.std.specs.Prelude.{ℕ, List, Result, Ok, Err}
use Rattle.std.proofs.Math.Seq.{paste}
use Rattle.archive.specs.Writing.{Writing}
use Rattle.digest.specs.Md5.{octets16}
use Rattle.filing.specs.Frame.{frame_written}
use Rattle.filing.specs.Kinds.{content_in}
use Rattle.filing.specs.declared.frame.Kind.{Kind}
use Rattle.archive.specs.declared.block.WriteError.{WriteError}
use Rattle.receiver.specs.declared.log.Log.{Log}
use Rattle.receiver.specs.declared.log.Framed.{Framed}
use Rattle.receiver.specs.declared.log.Framed.TheVariants as framed
use Rattle.receiver.specs.declared.log.Framed.TheVariants.{Bytes}

-- The store `s` with the next frame of the log behind its last check.
abbrev pub frame_laid : Log → Kind → ℕ → List ℕ → List ℕ → Writing
frame_laid l kind clock payload s =
    frame_written (paste s 0 (octets16 l.check) 16) 16 l.number (content_in (record { kind = kind; number = l.number; clock = clock }) payload)

-- What is known of a frame that is laid: how long it is, or that it has no room.
abbrev pub framed_by : Result ℕ WriteError → Framed
framed_by (Ok n) = Bytes n
framed_by (Err e) = framed.TooLong
