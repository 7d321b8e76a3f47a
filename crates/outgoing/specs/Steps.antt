-- What the first steps of src/body decide, by the code's own enums, and how these stand for the definitions of Outgoing.
use Rattle.std.specs.Prelude.{ℕ, ◌+◌, ◌-◌, List, ltb, Result, Ok, Err}
use Rattle.base.specs.Pick.{pick}
use Rattle.packet.specs.declared.header.HeaderAt.{HeaderAt}
use Rattle.packet.specs.declared.header.HeaderAt.TheVariants.{At, Unreadable, End}
use Rattle.outgoing.specs.declared.object.Stop.{Stop}
use Rattle.outgoing.specs.declared.object.Stop.TheVariants.{Empty, Full, Long}
use Rattle.outgoing.specs.declared.object.Filling as code
use Rattle.outgoing.specs.Object.{Filled, empty, full, too_large, Filling, filling}

-- The next header is over the capacity, over the space that is left, or goes into the packet.
unfoldable pub fit_of_of : HeaderAt → ℕ → ℕ → ℕ → Result ℕ Stop
fit_of_of End capacity sent at = Err Empty
fit_of_of Unreadable capacity sent at = Err Empty
fit_of_of (At id e from to) capacity sent at =
    pick (ltb capacity (to - sent)) (Err Long) (pick (ltb (capacity + 3) (at + (to - sent))) (Err Full) (Ok to))

-- The code's reason as the definition's.
abbrev pub why_of : Stop → Filled
why_of Empty = empty
why_of Full = full
why_of Long = too_large

-- The code's filling, with the reply store, as the definition's.
abbrev pub filling_of : code.Filling → List ℕ → Filling
filling_of f y = filling (why_of f.why) f.sent f.at y
