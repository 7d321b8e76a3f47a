-- `filing::frame::has_room` meets its contract: what is left behind the payload is compared with what a frame adds to it. Assumes nothing.
use mathlib.Core.Path.{sym, ap, ◌∙◌}
use Prim.Native.Nat.{ℕ, ◌+◌, ◌-◌}
use native.Mathlib.Omega.{arith}
use lib.Dec.{leb}
use borrow.Author.Tests.{lt-leb}
use Rattle.filing.specs.Frame.{frame_length, filling}
use Rattle.filing.proofs.InStore.{room_is}
use Rattle.filing.proofs.frame.has_room.Goals as goal

pub returns-then-total-at : goal.returns-then-total-at
returns-then-total-at c = sym (lt-leb (c.args.at + frame_length c.args.n) c.args.total (omega arith))

pub returns-then-left-n : goal.returns-then-left-n
returns-then-left-n c =
    let a = c.args in
    sym (lt-leb (a.at + frame_length a.n) a.total (omega arith))

pub returns : goal.returns
returns c =
    let a = c.args in
    ap (λ (f : ℕ). leb (32 + f) (a.total - a.at - a.n)) c.filling.ensures
    ∙ room_is a.at a.n (filling a.n) a.total (omega arith) (omega arith)
