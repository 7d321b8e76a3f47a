-- `audit::entry::open_act` meets its contract: its tests are those of the definition. Assumes nothing.
use Rattle.std.proofs.Common.{sym, refl, ap, ◌∙◌, arith, le-ltb, lt-ltb, eq-eqb, ne_eqb}
use Rattle.audit.specs.Taken.{open_act}
use Rattle.audit.specs.Place.{four_at}
use Rattle.journal_code.specs.Claims.{settings_read}
use Rattle.journal_code.specs.declared.state.Settings.{Settings}
use Rattle.audit.proofs.entry.open_act.Goals as goal

pub returns-then-number_at-ne-OPENING : goal.returns-then-number_at-ne-OPENING
unfolding open_act
returns-then-number_at-ne-OPENING c =
    rw (ne_eqb (four_at c.args.payload.now 0) 0x4F425831 (λ e. c.if-number_at-ne-OPENING.true (c.number_at.ensures ∙ e)))
    refl

pub returns-then-settings-gt-BODY : goal.returns-then-settings-gt-BODY
unfolding open_act
returns-then-settings-gt-BODY c =
    rw (
      eq-eqb (four_at c.args.payload.now 0) 0x4F425831 (sym c.number_at.ensures ∙ c.if-number_at-ne-OPENING.false),
      lt-ltb 1048576 (settings_read c.args.payload.now).limit (omega (
        arith,
        ap
            (λ (s : Settings). s.limit) c.settings_of-settings.ensures,
      )),
    ) refl

pub returns : goal.returns
unfolding open_act
returns c =
    rw (
      eq-eqb (four_at c.args.payload.now 0) 0x4F425831 (sym c.number_at.ensures ∙ c.if-number_at-ne-OPENING.false),
      le-ltb 1048576 (settings_read c.args.payload.now).limit (omega (
        arith,
        ap
            (λ (s : Settings). s.limit) c.settings_of-settings.ensures,
      )),
    ) refl
