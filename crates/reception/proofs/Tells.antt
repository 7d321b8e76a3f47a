-- The bytes of a receiver's log tell what was to be filed: frames read back as they were written, they stand for their entries, and these for the
-- records.
-- Assumes nothing.
use Prim.Native.Nat.{ℕ}
use mathlib.Core.Path.{◌≡◌, refl, sym, ap, ap₂, ◌∙◌}
use mathlib.Core.List.{List, [], ◌∷◌, ◌++◌, append_assoc}
use lib.ListN.{take}
use Rattle.journal.specs.Journal.{Settings as JournalSettings, Journal, fresh}
use Rattle.journal.specs.Naming.{Naming, unnamed}
use Rattle.server.specs.declared.Settings.{Settings}
use Rattle.filing.specs.Entries.{LogEntry, entry_step, names_step, Handed, handed_under, log_handed}
use Rattle.filing.specs.Frame.{Content, log_bytes}
use Rattle.filing.specs.Reading.{Log, read_log}
use Rattle.filing.specs.Kinds.{entry_in, entries_in, settings_in, audited}
use Rattle.filing.proofs.Framed.{log-reads, cut-reads}
use Rattle.filing.proofs.Told.{entries-back, settings-back}
use Rattle.reception.specs.Received.{Attempt, attempted}
use Rattle.reception.specs.Tells.{opening_with, open_frame, Logged, LogTells, FirstHanded, CutTells}
use Rattle.reception.proofs.Files.{receiver_files}

-- what an auditor makes of all frames
all-audited : (st : Settings) (t : ℕ) (more : List ℕ) (cs : List Content) (l : List Attempt) (w : List Handed) → Logged st t more cs l w
    → audited (open_frame st t more ∷ cs) ≡ attempted l ++ w
all-audited st t more cs l w g =
    ap₂ (λ (x : JournalSettings) (es : List LogEntry). log_handed (fresh x) unnamed es) (settings-back (opening_with st more) g.limit)
    (entries-back g.es cs g.encodes)
    ∙ (receiver_files st g.s g.start g.xs g.ran l w g.received g.kept).log g.es g.joins

pub log-tells : LogTells
log-tells st t more cs l w g =
    ap (λ (l : Log). audited l.contents) (log-reads (open_frame st t more ∷ cs) g.fits g.few) ∙ all-audited st t more cs l w g

-- ---- a log that was cut

entries-append : (ds bs : List Content) → entries_in (ds ++ bs) ≡ entries_in ds ++ entries_in bs
entries-append [] bs = refl
entries-append (c ∷ ds) bs =
    ap (λ (l : List LogEntry). entry_in c ++ l) (entries-append ds bs) ∙ sym (append_assoc (entry_in c) (entries_in ds) (entries_in bs))

record Begins (j : Journal) (n : Naming) (es fs : List LogEntry) : Type 0 where
  rest : List Handed
  whole : log_handed j n es ++ rest ≡ log_handed j n (es ++ fs)

begins : (j : Journal) (n : Naming) (es fs : List LogEntry) → Begins j n es fs
begins j n [] fs = record { rest = log_handed j n fs; whole = refl }
begins j n (e ∷ es) fs =
    let w = begins (entry_step j e).next (names_step j n e) es fs in
    let h = handed_under (names_step j n e).under (entry_step j e).given in
    record {
      rest = w.rest;
      whole = append_assoc h (log_handed (entry_step j e).next (names_step j n e) es) w.rest ∙ ap (λ (l : List Handed). h ++ l) w.whole;
    }

-- the first frames tell the first records
first-told : (ds lost cs : List Content) (hs : List Handed) → ds ++ lost ≡ cs → audited cs ≡ hs
    → FirstHanded (audited ds) hs
first-told [] lost cs hs e a = record { lost = hs; joined = refl }
first-told (d ∷ ds) lost cs hs e a =
    let j = fresh (settings_in d.payload) in
    let w = begins j unnamed (entries_in ds) (entries_in lost) in
    record {
      lost = w.rest;
      joined = w.whole ∙ ap (log_handed j unnamed) (sym (entries-append ds lost)) ∙ ap audited e ∙ a;
    }

pub cut-tells : CutTells
cut-tells st t more cs l w g n =
    let c = cut-reads (open_frame st t more ∷ cs) n g.fits g.few in
    first-told (read_log (take n (log_bytes (open_frame st t more ∷ cs)))).contents c.lost (open_frame st t more ∷ cs) (attempted l ++ w) c.whole
    (all-audited st t more cs l w g)
