-- What the frames of a log say, in the code's words (docs/ARCHIVE.md, "The log"): the kind by the four letters, the entry by kind and payload, and
-- the settings by the first frame's payload.
use Rattle.std.specs.Prelude.{ℕ, ◌||◌, List, [], ◌∷◌, eqb, get_or, drop, Option, Some, None}
use Rattle.base.specs.Pick.{pick}
use Rattle.journal.specs.Journal.{Settings}
use Rattle.filing.specs.Entries.{LogEntry, received, sent, answered, object, checked, nonce, closed, ended}
use Rattle.filing.specs.Kinds.{kind_number, ids_in}
use Rattle.filing.specs.declared.frame.Kind.{Kind}
use Rattle.filing.specs.declared.frame.Kind.TheVariants.{Open, Recv, Part, Sent, Answ, Objt, Pass, Nonc, Clos, File, Fail, Done}
use Rattle.filing.specs.declared.entry.EntryRead.{EntryRead}
use Rattle.filing.specs.declared.entry.EntryRead.TheVariants.{Packet, Reply, Answer, Object, Check, Nonce, Ids, End, Nothing}
use Rattle.filing.specs.declared.entry.SettingsRead.{SettingsRead}

-- The kind of a frame by its four letters as one number.
abbrev pub kind_read : ℕ → Option Kind
kind_read n =
    pick (eqb n (kind_number Open)) (Some Open)
    (pick (eqb n (kind_number Recv)) (Some Recv)
    (pick (eqb n (kind_number Part)) (Some Part)
    (pick (eqb n (kind_number Sent)) (Some Sent)
    (pick (eqb n (kind_number Answ)) (Some Answ)
    (pick (eqb n (kind_number Objt)) (Some Objt)
    (pick (eqb n (kind_number Pass)) (Some Pass)
    (pick (eqb n (kind_number Nonc)) (Some Nonc)
    (pick (eqb n (kind_number Clos)) (Some Clos)
    (pick (eqb n (kind_number File)) (Some File)
    (pick (eqb n (kind_number Fail)) (Some Fail) (pick (eqb n (kind_number Done)) (Some Done) None)))))))))))

-- What the payload `p` of a frame says.
abbrev pub entry_read : Kind → List ℕ → EntryRead
entry_read Open p = Nothing
entry_read Recv p = Packet
entry_read Part p = Packet
entry_read Sent p = Reply (get_or p 0 0)
entry_read Answ p = Answer (get_or p 0 0)
entry_read Objt p = Object
entry_read Pass p = Check (eqb (get_or p 0 0) 1)
entry_read Nonc p = Nonce
entry_read Clos p = Ids
entry_read File p = Nothing
entry_read Fail p = Nothing
entry_read Done p = pick (eqb (get_or p 0 0) 1 || eqb (get_or p 0 0) 2) End Nothing

-- The entry that was read of the payload `p`, if it is one.
abbrev pub entry_with : EntryRead → List ℕ → List LogEntry
entry_with Packet p = received p ∷ []
entry_with (Reply b) p = sent b ∷ []
entry_with (Answer code) p = answered code (drop 1 p) ∷ []
entry_with Object p = object ∷ []
entry_with (Check right) p = checked right ∷ []
entry_with Nonce p = nonce p ∷ []
entry_with Ids p = closed (ids_in p) ∷ []
entry_with End p = ended ∷ []
entry_with Nothing p = []

-- The journal's settings, by those that were read.
abbrev pub settings_with : SettingsRead → Settings
settings_with r =
    record {
      limit = r.limit;
      srm = r.srm;
      authentication = r.authentication;
      demands_user = r.demands_user;
      refuses = r.refuses;
    }
