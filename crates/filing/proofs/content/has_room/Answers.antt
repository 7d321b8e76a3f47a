-- `filing::content::has_room` meets its contract: what is left behind each part is room for the next. Assumes nothing.
use mathlib.Core.Path.{sym}
use Prim.Native.Nat.{◌+◌}
use native.Mathlib.Omega.{arith}
use borrow.Author.Tests.{lt-leb}
use Rattle.filing.proofs.Contents.{room-four}
use Rattle.filing.proofs.content.has_room.Goals as goal

pub returns-then-total-row : goal.returns-then-total-row
returns-then-total-row c =
    let a = c.args in
    sym (lt-leb (a.row + (a.first + (a.second + a.third))) a.total (omega arith))

pub returns-then-behind-first : goal.returns-then-behind-first
returns-then-behind-first c =
    let a = c.args in
    sym (lt-leb (a.row + (a.first + (a.second + a.third))) a.total (omega arith))

pub returns-then-left-second : goal.returns-then-left-second
returns-then-left-second c =
    let a = c.args in
    sym (lt-leb (a.row + (a.first + (a.second + a.third))) a.total (omega arith))

pub returns : goal.returns
returns c =
    let a = c.args in
    room-four a.total a.row a.first a.second a.third (omega arith) (omega arith) (omega arith)
