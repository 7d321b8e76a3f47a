-- Two flags in one byte: SetPath's (IrOBEX 1.5, section 3.4.6.1) and a challenge's options (section 3.6.3.2).
use Rattle.std.specs.Prelude.{ℕ, ◌+◌, Bool}
use Rattle.base.specs.Pick.{pick}

-- The byte whose bit 0 is `a` and whose bit 1 is `b`.
unfoldable pub flag_bits : Bool → Bool → ℕ
flag_bits a b = pick a 1 0 + pick b 2 0
