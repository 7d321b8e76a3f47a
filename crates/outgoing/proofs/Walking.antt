-- Walks over the headers of a store, a header at a time: where those that must lead end, and what goes back of a packet. Assumes nothing.
use mathlib.Core.Path.{◌≡◌, refl, sym, ap, ◌∙◌}
use mathlib.Core.Bool.{Bool, true, false}
use Rattle.std.specs.Prelude.{None, Some}
use mathlib.Core.List.{List, [], ◌++◌, append_assoc, append-nil}
use Prim.Native.Nat.{ℕ, zero, suc, ◌+◌, ◌-◌, ◌≤◌, ◌<◌}
use native.Mathlib.Omega.{arith}
use lib.ListN.{length, length-append}
use Rattle.base.specs.Pick.{pick}
use Rattle.packet.specs.Header.{header_at_of, part}
use Rattle.packet.specs.declared.header.HeaderAt.{HeaderAt}
use Rattle.packet.specs.declared.header.HeaderAt.TheVariants.{At, Unreadable, End}
use Rattle.packet.specs.Placed.{laid}
use Rattle.packet.proofs.Laid.{laid-nothing, laid-append, length-laid}
use Rattle.packet.proofs.HeaderBytes.{header_at_within, stands, part_length}
use Rattle.outgoing.specs.declared.queue.Part.{Part}
use Rattle.outgoing.specs.declared.queue.Part.TheVariants.{All, Headers, Chunks, Nothing}
use Rattle.outgoing.specs.declared.queue.Piece.{Piece}
use Rattle.outgoing.specs.Queue.{must_lead, is_chunk, lead_by, lead_from, lead_end, back_from, piece_of, back_by, back_walk, back_bytes}

-- ---- a walk with fuel, whatever it gathers

-- `g` walks over the headers of `s` by `turn`, which asks it of places behind the header alone
record Walks {A : Type 0} (s : List ℕ) (turn : HeaderAt → ℕ → (ℕ → A) → A) (g : ℕ → ℕ → A) : Type 0 where
  goes : (k at : ℕ) → g (suc k) at ≡ turn (header_at_of s at) at (g k)
  onward : (at : ℕ) (f h : ℕ → A) → ((n : ℕ) → length s - n < length s - at → f n ≡ h n) → (a : HeaderAt) → header_at_of s at ≡ a
      → turn a at f ≡ turn a at h

-- any fuel that is enough gives the same
enough : {A : Type 0} {s : List ℕ} {turn : HeaderAt → ℕ → (ℕ → A) → A} {g : ℕ → ℕ → A} → Walks s turn g → (j k at : ℕ)
    → length s - at < j → length s - at < k → g j at ≡ g k at
enough w zero k at h l = absurd (omega arith)
enough w (suc j) zero at h l = absurd (omega arith)
enough {A} {s} {turn} {g} w (suc j) (suc k) at h l =
    w.goes j at
    ∙ w.onward at (g j) (g k) (λ n m. enough w j k n (omega arith) (omega arith)) (header_at_of s at) refl
    ∙ sym (w.goes k at)

-- so with the fuel of the whole a turn is followed by the same walk
step : {A : Type 0} {s : List ℕ} {turn : HeaderAt → ℕ → (ℕ → A) → A} {g : ℕ → ℕ → A} → Walks s turn g → (at : ℕ) (a : HeaderAt)
    → header_at_of s at ≡ a → g (suc (length s)) at ≡ turn a at (g (suc (length s)))
step {A} {s} {turn} {g} w at a e =
    w.goes (length s) at
    ∙ ap (λ (a : HeaderAt). turn a at (g (length s))) e
    ∙ w.onward at (g (length s)) (g (suc (length s))) (λ n m. enough w (length s) (suc (length s)) n (omega arith) (omega arith)) a e

-- ---- where the headers that must lead end

lead_walks : (s : List ℕ) → Walks s lead_by (λ k at. lead_from k s at)
unfolding lead_from
lead_walks s = record { goes = λ k at. refl; onward = further }
  where
    further : (at : ℕ) (f h : ℕ → ℕ) → ((n : ℕ) → length s - n < length s - at → f n ≡ h n) → (a : HeaderAt) → header_at_of s at ≡ a
        → lead_by a at f ≡ lead_by a at h
    further at f h same End e = refl
    further at f h same Unreadable e = refl
    further at f h same (At id c from to) e =
        ap (λ (n : ℕ). pick (must_lead id) n at) (same to (omega (arith, header_at_within s at id c from to e)))

pub lead-step : (s : List ℕ) (at : ℕ) (a : HeaderAt) → header_at_of s at ≡ a → lead_end s at ≡ lead_by a at (lead_end s)
unfolding lead_end
lead-step s at a e = step (lead_walks s) at a e

-- ---- what goes back of a packet

back_walks : (p : Part) (s : List ℕ) → Walks s (back_by p s) (λ k at. back_walk k p s at)
unfolding back_walk
back_walks p s = record { goes = λ k at. refl; onward = further }
  where
    further : (at : ℕ) (f h : ℕ → List ℕ) → ((n : ℕ) → length s - n < length s - at → f n ≡ h n) → (a : HeaderAt) → header_at_of s at ≡ a
        → back_by p s a at f ≡ back_by p s a at h
    further at f h same End e = refl
    further at f h same Unreadable e = refl
    further at f h same (At id c from to) e =
        ap (λ (l : List ℕ). part s (back_from p (is_chunk id) at from to) to ++ l) (same to (omega (arith, header_at_within s at id c from to e)))

pub back_step : (p : Part) (s : List ℕ) (at : ℕ) (a : HeaderAt) → header_at_of s at ≡ a → back_bytes p s at ≡ back_by p s a at (back_bytes p s)
unfolding back_bytes
back_step p s at a e = step (back_walks p s) at a e

-- a piece stands within its header
from-within : (p : Part) (chunk : Bool) (at from to : ℕ) → at ≤ from → from ≤ to
    → (at ≤ back_from p chunk at from to) × (back_from p chunk at from to ≤ to)
from-within All chunk at from to h k = (omega arith, omega arith)
from-within Headers true at from to h k = (omega arith, omega arith)
from-within Headers false at from to h k = (omega arith, omega arith)
from-within Chunks true at from to h k = (omega arith, omega arith)
from-within Chunks false at from to h k = (omega arith, omega arith)
from-within Nothing chunk at from to h k = (omega arith, omega arith)

-- where no piece stands, nothing goes back from there on
pub back-ends : (p : Part) (s : List ℕ) (at : ℕ) → None ≡ piece_of p (header_at_of s at) at → back_bytes p s at ≡ []
back-ends p s at e = by (header_at_of s at) refl e
  where
    by : (a : HeaderAt) → header_at_of s at ≡ a → None ≡ piece_of p a at → back_bytes p s at ≡ []
    by End q w = back_step p s at End q
    by Unreadable q w = back_step p s at Unreadable q
    by (At id c from to) q w = cc

-- a piece that goes back, and the rest
pub record Goes (p : Part) (s : List ℕ) (at : ℕ) (x : Piece) : Type 0 where
  pub start : at ≤ x.from
  pub stop : x.from ≤ x.to
  pub onward : at < x.to
  pub fits : x.to ≤ length s
  pub bytes : back_bytes p s at ≡ part s x.from x.to ++ back_bytes p s x.to

pub back-goes : (p : Part) (s : List ℕ) (at : ℕ) (x : Piece) → Some x ≡ piece_of p (header_at_of s at) at → Goes p s at x
back-goes p s at x e = by (header_at_of s at) refl e
  where
    by : (a : HeaderAt) → header_at_of s at ≡ a → Some x ≡ piece_of p a at → Goes p s at x
    by End q w = cc
    by Unreadable q w = cc
    by (At id c from to) q w =
        let g = stands s at id c from to q in
        let i = from-within p (is_chunk id) at from to (omega (arith, g.start)) g.past in
        let v : x ≡ record { from = back_from p (is_chunk id) at from to; to = to } = cc in
        let f : x.from ≡ back_from p (is_chunk id) at from to = ap (λ (y : Piece). y.from) v in
        let t : x.to ≡ to = ap (λ (y : Piece). y.to) v in
        record {
          start = omega (arith, f, i.0);
          stop = omega (arith, f, t, i.1);
          onward = omega (arith, t, header_at_within s at id c from to q);
          fits = omega (arith, t, g.fits);
          bytes = back_step p s at (At id c from to) q ∙ sym (ap (λ (y : Piece). part s y.from y.to ++ back_bytes p s y.to) v);
        }

-- what went back so far, and the rest
pub record Gone (p : Part) (s : List ℕ) (at n : ℕ) : Type 0 where
  pub done : List ℕ
  pub size : length done ≡ n
  pub behind : n ≤ at
  pub whole : back_bytes p s 0 ≡ done ++ back_bytes p s at

abbrev pub gone-first : (p : Part) (s : List ℕ) → Gone p s 0 0
gone-first p s = record { done = []; size = refl; behind = omega arith; whole = refl }

abbrev pub gone_on : {p : Part} {s : List ℕ} {at n : ℕ} {x : Piece} → Gone p s at n → Goes p s at x → Gone p s x.to (n + (x.to - x.from))
gone_on {p} {s} {at} {n} {x} g w =
    let l = part s x.from x.to in
    let r = back_bytes p s x.to in
    record {
      done = g.done ++ l;
      size = omega (arith, length-append g.done l, g.size, part_length s x.from x.to w.fits);
      behind = omega (arith, g.behind, w.start, w.stop);
      whole = g.whole ∙ ap (λ (m : List ℕ). g.done ++ m) w.bytes ∙ sym (append_assoc g.done l r);
    }

-- at the end all of it
pub gone-all : {p : Part} {s : List ℕ} {at n : ℕ} (g : Gone p s at n) → back_bytes p s at ≡ [] → back_bytes p s 0 ≡ g.done
gone-all g e = g.whole ∙ ap (λ (m : List ℕ). g.done ++ m) e ∙ append-nil g.done

-- it is no longer than what goes back in all
gone-size : {p : Part} {s : List ℕ} {at n : ℕ} → Gone p s at n → n ≤ length (back_bytes p s 0)
gone-size {p} {s} {at} g = omega (arith, ap length g.whole, length-append g.done (back_bytes p s at), g.size)

-- the bytes that went back so far stand at the front of the store
pub record Laying (p : Part) (s d : List ℕ) (at n : ℕ) (store : List ℕ) : Type 0 where
  pub gone : Gone p s at n
  pub is : store ≡ laid d 0 gone.done
  pub same : length store ≡ length d

pub laying_first : (p : Part) (s d : List ℕ) → Laying p s d 0 0 d
laying_first p s d = record { gone = gone-first p s; is = sym (laid-nothing d 0); same = refl }

pub laying_room : {p : Part} {s d : List ℕ} {at n : ℕ} {store : List ℕ} {x : Piece} → Laying p s d at n store → Goes p s at x
    → length (back_bytes p s 0) ≤ length d → n + (x.to - x.from) ≤ length d
laying_room l w h = omega (arith, gone-size (gone_on l.gone w))

pub laying_on : {p : Part} {s d : List ℕ} {at n : ℕ} {store : List ℕ} {x : Piece} → Laying p s d at n store → Goes p s at x
    → length (back_bytes p s 0) ≤ length d → (z : List ℕ) → z ≡ laid store n (part s x.from x.to)
    → Laying p s d x.to (n + (x.to - x.from)) z
laying_on {p} {s} {d} {at} {n} {store} {x} l w h z e =
    let g = gone_on l.gone w in
    let v = part s x.from x.to in
    let m = part_length s x.from x.to w.fits in
    let f = laying_room l w h in
    let q : z ≡ laid d 0 (l.gone.done ++ v) =
    e ∙ ap (λ (y : List ℕ). laid y n v) l.is ∙ laid-append d l.gone.done v 0 n (omega (arith, l.gone.size)) (omega arith) in
    record { gone = g; is = q; same = ap length q ∙ length-laid d g.done 0 (omega (arith, g.size)) }
