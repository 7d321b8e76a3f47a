-- `lines::text::Text::put_shown` meets its contract: what is left to be put goes behind what was put. Assumes nothing.
use Rattle.std.proofs.Common.{◌≡◌, drop}
use Rattle.lines.specs.Text.{put_shown}
use Rattle.lines.proofs.text.Text.put_shown.Given as goal

abbrev pub invariant-loop-b : goal.invariant-loop-b
invariant-loop-b g l =
    put_shown l.self.bytes l.self.length l.before (drop l.b-index l.s) ≡ put_shown l.initial.self.bytes l.initial.self.length 0 l.s
