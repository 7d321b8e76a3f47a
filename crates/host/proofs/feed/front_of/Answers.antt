-- `host::feed::front_of` meets its contract: a store shorter than `INPUT` is read from its first byte, any other behind the lead. Assumes
-- nothing.
use borrow.Author.Tests.{lt-ltb, le-ltb}
use mathlib.Core.Bool.{Bool}
use mathlib.Core.Path.{sym, ap}
use Prim.Native.Nat.{ℕ}
use Rattle.base.specs.Pick.{pick}
use Rattle.host.specs.Feed.{lead, front_of}
use Rattle.host.proofs.feed.front_of.Goals as goal

pub returns-then-len-lt-INPUT : goal.returns-then-len-lt-INPUT
unfolding front_of
returns-then-len-lt-INPUT c = sym (ap (λ (t : Bool). pick {A = ℕ} t 0 lead) (lt-ltb _ _ c.if-len-lt-INPUT.true))

pub returns : goal.returns
unfolding front_of
returns c = sym (ap (λ (t : Bool). pick {A = ℕ} t 0 lead) (le-ltb _ _ c.if-len-lt-INPUT.false))
