-- `client::guard::check_connect` meets its contract. Each `return` rewrites with the tests that led there. Assumes nothing.
use borrow.Author.Tests.{lt-ltb, le-ltb}
use mathlib.Core.Path.{sym, ◌∙◌}
use native.Mathlib.Omega.{arith}
use Prim.Native.Nat.{◌+◌, ◌≤◌, ◌<◌}
use lib.ListN.{length}
use Rattle.client.proofs.guard.check_connect.Goals as goal

pub returns-then-is_bad_headers : goal.returns-then-is_bad_headers
returns-then-is_bad_headers c = simp (sym c.is_bad_headers.ensures ∙ c.if-is_bad_headers.true)

pub returns-then-lead-s : goal.returns-then-lead-s
returns-then-lead-s c =
    let args = c.args in
    let f : 248 < args.lead + length args.s.now = omega arith in
    simp (sym c.is_bad_headers.ensures ∙ c.if-is_bad_headers.false, lt-ltb _ _ f)

pub returns : goal.returns
returns c =
    let args = c.args in
    let f : args.lead + length args.s.now ≤ 248 = omega arith in
    simp (sym c.is_bad_headers.ensures ∙ c.if-is_bad_headers.false, le-ltb _ _ f)
