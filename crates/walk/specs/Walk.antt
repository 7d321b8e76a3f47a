-- The walk over a packet's headers, which holds the packet's bytes and its place: what its functions give, the list of headers that they
-- give from a place up to the end, and the same list by the cursor, which is passed the bytes each time.
use Rattle.std.specs.Prelude.{ℕ, zero, suc, ◌+◌, List, length, Option as Maybe, Some, None}
use Rattle.std.proofs.Math.Option.{Option, none, some}
use Rattle.std.specs.Borrow.{Bor}
use Rattle.packet.specs.declared.header.Cursor.{Cursor}
use Rattle.packet.specs.Header.{Header, header_at_of, walk_from}
use Rattle.walk.specs.declared.Walk.{Walk}

-- ---- what the functions give

-- `new`: the walk over a packet that stands at `at`.
abbrev pub walk_at : Bor (List ℕ) → ℕ → Walk
walk_at packet at = record { packet = packet; at = at }

-- The walk over the same packet that stands at `at`: behind a header, `at` is where its value ends.
abbrev pub walk_to : Walk → ℕ → Walk
walk_to w at = walk_at w.packet at

-- `n` headers, and then those of a list; `none` is unreadable.
abbrev pub count_from : ℕ → Option (List Header) → Maybe ℕ
count_from n none = None
count_from n (some hs) = Some (n + length hs)

-- `len`: how many headers a list has.
abbrev pub count_of : Option (List Header) → Maybe ℕ
count_of r = count_from 0 r

-- ---- the list

-- The headers from where the walk stands: what `next` gives, and on from the walk that stands behind it. Each takes a byte at least, so a
-- fuel over the packet's length is enough.
unfoldable pub walked_for : ℕ → Walk → Option (List Header)
walked_for zero w = none
walked_for (suc k) w = walk_from w.packet.now (header_at_of w.packet.now w.at) (λ n. walked_for k (walk_to w n))

-- The headers from where the walk stands up to the packet's end.
unfoldable pub walked : Walk → Option (List Header)
walked w = walked_for (suc (length w.packet.now)) w

-- The same by the cursor: what `Cursor::read` gives, and on from `Cursor::new` behind it.
unfoldable pub cursor_for : ℕ → List ℕ → Cursor → Option (List Header)
cursor_for zero s c = none
cursor_for (suc k) s c = walk_from s (header_at_of s c.at) (λ n. cursor_for k s (record { at = n }))

-- The headers from the cursor up to the packet's end.
unfoldable pub by_cursor : List ℕ → Cursor → Option (List Header)
by_cursor s c = cursor_for (suc (length s)) s c
