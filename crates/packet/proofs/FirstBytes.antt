-- The table of first bytes is right: each of its 256 entries says what `first_byte` says of its byte. This is computed once, over the whole
-- table, and `entry-says` reads one entry off it. Assumes nothing.
use mathlib.Core.Path.{◌≡◌, refl, sym, ap, ◌∙◌}
use mathlib.Core.List.{List, map}
use Prim.Native.Nat.{ℕ, zero, suc, ◌+◌, ◌<◌}
use native.Mathlib.Nat.{add-zero, zero-add, add-suc, suc-add, le_of_suc-le-suc, not-suc-le-zero}
use lib.ListN.{get_or, get_or-map}
use Rattle.std.specs.Prelude.{Option}
use Rattle.packet.specs.declared.opcode.FirstByte.{FirstByte}
use Rattle.packet.specs.FirstByte.{named, first_byte, entry_says, numbers_from, first_byte_table}

pub table-says : map entry_says first_byte_table ≡ map first_byte (numbers_from 0x00 256)
unfolding named first_byte entry_says numbers_from first_byte_table
table-says = refl

number_at : (b n k : ℕ) → k < n → get_or (numbers_from b n) k 0 ≡ b + k
unfolding numbers_from
number_at b zero k h = absurd (not-suc-le-zero h)
number_at b (suc n) zero h = sym (add-zero b)
number_at b (suc n) (suc k) h = number_at (suc b) n k (le_of_suc-le-suc h) ∙ suc-add b k ∙ sym (add-suc b k)

-- behind the end of a list stands 0, which says the same as an entry and as a first byte
zero-says : entry_says 0 ≡ first_byte 0
unfolding named first_byte entry_says
zero-says = refl

pub entry-says : (b : ℕ) → b < 256 → entry_says (get_or first_byte_table b 0) ≡ first_byte b
entry-says b h =
    sym (get_or-map entry_says first_byte_table b 0)
    ∙ ap (λ (l : List (Option FirstByte)). get_or l b (entry_says 0)) table-says
    ∙ ap (get_or (map first_byte (numbers_from 0x00 256)) b) zero-says
    ∙ get_or-map first_byte (numbers_from 0x00 256) b 0
    ∙ ap first_byte (number_at 0x00 256 b h ∙ zero-add b)
