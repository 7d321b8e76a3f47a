-- The link with a server's host that reads into its packet store itself (docs/EMBEDDING.md#reading-straight-into-the-packet-store). Before each
-- move it may write there, behind the bytes of an unfinished packet, while bytes are awaited. Neither end comes to see it: the link is at each
-- moment the one that the same moves lead to if nothing is written, but for bytes of that store which do not count. So whatever is claimed of a
-- run holds of such runs too.
use Rattle.std.specs.Prelude.{ℕ, ◌≡◌, List, [], ◌∷◌, map}
use Rattle.model.specs.Runs.{writing, Writes}
use Rattle.model.specs.HostWrites.{SameBut}
use Rattle.link.specs.Link.{Link, link_with, Move, move, moves}

-- A move, and the bytes that the host has written before it.
pub record WrittenMove : Type 0 where
  pub written : List ℕ
  pub move : Move

-- The link once the host has written the bytes `w`.
abbrev pub writing_at : Link → List ℕ → Link
writing_at l w = link_with l.client l.stores l.said (writing l.server w) l.told l.up l.down

-- The move, in the link that the host has written into.
abbrev pub move_written : Link → WrittenMove → Link
move_written l x = move (writing_at l x.written) x.move

-- Such moves, one after the other.
abbrev pub moves_written : Link → List WrittenMove → Link
moves_written l [] = l
moves_written l (x ∷ xs) = moves_written (move_written l x) xs

-- The host writes while bytes are awaited.
abbrev pub AllWrite : Link → List WrittenMove → Type 0
AllWrite l [] = Unit {0}
AllWrite l (x ∷ xs) = Writes l.server x.written × AllWrite (move_written l x) xs

-- The moves alone.
abbrev pub moves_alone : List WrittenMove → List Move
moves_alone xs = map (λ (x : WrittenMove). x.move) xs

-- Two links are the same, but for bytes of the server's packet store that do not count.
pub record SameLink (l k : Link) : Type 0 where
  pub client : k.client ≡ l.client
  pub stores : k.stores ≡ l.stores
  pub said : k.said ≡ l.said
  pub server : SameBut l.server k.server
  pub told : k.told ≡ l.told
  pub up : k.up ≡ l.up
  pub down : k.down ≡ l.down

-- What the host writes is not seen.
abbrev pub WritesUnseen : Type 0
WritesUnseen = (l : Link) (xs : List WrittenMove) → AllWrite l xs → SameLink (moves l (moves_alone xs)) (moves_written l xs)
