-- The list that the walk gives is the packet's list of headers, and the list that the cursor gives: each takes the same step at each place,
-- and a header is followed by a later place. Assumes nothing.
use mathlib.Core.Path.{◌≡◌, refl, sym, ap, ◌∙◌}
use mathlib.Core.List.{List}
use mathlib.Core.Option.{Option}
use Prim.Native.Nat.{ℕ, zero, suc, ◌-◌, ◌<◌}
use native.Mathlib.Omega.{arith}
use lib.ListN.{length}
use Rattle.packet.specs.declared.header.Cursor.{Cursor}
use Rattle.packet.specs.declared.header.HeaderAt.{HeaderAt}
use Rattle.packet.specs.declared.header.HeaderAt.TheVariants.{At, Unreadable, End}
use Rattle.packet.specs.Header.{Header, header_at_of, part, push, walk_from, read_headers}
use Rattle.packet.proofs.HeaderLaws.{by_cursor_lem}
use Rattle.walk.specs.declared.Walk.{Walk}
use Rattle.walk.specs.Walk.{walk_to, walked_for, walked, cursor_for, by_cursor}

-- ---- any reader that takes the packet's step at each place gives the packet's list

turn : (s : List ℕ) (at : ℕ) (f : ℕ → Option (List Header)) → ((n : ℕ) → length s - n < length s - at → f n ≡ read_headers s n)
    → (a : HeaderAt) → header_at_of s at ≡ a → walk_from s a f ≡ read_headers s at
turn s at f on End e = sym (by_cursor_lem s at End e).1
turn s at f on Unreadable e = sym (by_cursor_lem s at Unreadable e)
turn s at f on (At id c from to) e =
    let h = by_cursor_lem s at (At id c from to) e in
    ap (push (record { id = id; value = part s from to })) (on to (omega (arith, h.next, h.stands.fits))) ∙ sym h.list

pub follows : (s : List ℕ) (g : ℕ → ℕ → Option (List Header)) → ((k at : ℕ) → g (suc k) at ≡ walk_from s (header_at_of s at) (g k))
    → (k at : ℕ) → length s - at < k → g k at ≡ read_headers s at
follows s g steps zero at l = absurd (omega arith)
follows s g steps (suc k) at l =
    steps k at ∙ turn s at (g k) (λ n m. follows s g steps k n (omega arith)) (header_at_of s at) refl

-- ---- the theorems

-- the walk gives the definition's list, from where it stands
pub walked-reads : (w : Walk) → walked w ≡ read_headers w.packet.now w.at
unfolding walked walked_for
walked-reads w =
    follows w.packet.now (λ k n. walked_for k (walk_to w n)) (λ k n. refl) (suc (length w.packet.now)) w.at (omega arith)

-- the cursor gives it too
pub cursor_reads : (s : List ℕ) (c : Cursor) → by_cursor s c ≡ read_headers s c.at
unfolding by_cursor cursor_for
cursor_reads s c = follows s (λ k n. cursor_for k s (record { at = n })) (λ k n. refl) (suc (length s)) c.at (omega arith)

-- so the walk and the cursor at its place agree
pub walked_cursor : (w : Walk) → walked w ≡ by_cursor w.packet.now (record { at = w.at })
walked_cursor w = walked-reads w ∙ sym (cursor_reads w.packet.now (record { at = w.at }))

-- and the walk's list goes on as its functions do, with no word of fuel: by what `next` gives, then from the walk behind it
pub walked_step : (w : Walk) → walked w ≡ walk_from w.packet.now (header_at_of w.packet.now w.at) (λ n. walked (walk_to w n))
walked_step w =
    walked-reads w
    ∙ sym (turn w.packet.now w.at (λ n. walked (walk_to w n)) (λ n l. walked-reads (walk_to w n)) (header_at_of w.packet.now w.at) refl)
