-- `calendar::time::write_time` meets its contract: the text is made first and copied whole, if there is room. Assumes nothing.
use mathlib.Core.Path.{ap, ◌∙◌}
use lib.ListN.{length}
use borrow.Author.Tests.{lt-ltb}
use Rattle.calendar.specs.Time.{text_of, time_of, write_time}
use Rattle.calendar.proofs.Times.{written}
use native.Mathlib.Omega.{arith}
use Rattle.calendar.proofs.time.write_time.Goals as goal

pub returns-then-text-lt-TEXT : goal.returns-then-text-lt-TEXT
unfolding write_time
returns-then-text-lt-TEXT c =
    let t = c.args.text.now in
    rw (lt-ltb (length t) 16 c.if-text-lt-TEXT.true)

pub returns : goal.returns
unfolding time_of
returns c =
    let a = c in
    let i = c.instant_of in
    let x = c.args in
    written x.seconds c.text_of-made.result x.text.now c.copy_into.new.dst (omega arith)
    (c.text_of-made.ensures ∙ ap text_of i.ensures) c.copy_into.ensures
