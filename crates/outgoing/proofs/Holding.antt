-- What a reply store holds while a packet is made in it: three bytes for the packet's start, its content, and whatever stands behind. Assumes
-- nothing.
use mathlib.Core.Path.{◌≡◌, refl, sym, ap, ◌∙◌}
use mathlib.Core.Bool.{Bool}
use mathlib.Core.List.{List, [], ◌++◌, append_assoc, append-nil}
use Prim.Native.Nat.{ℕ, suc, ◌+◌, ◌≤◌}
use native.Mathlib.Omega.{arith}
use lib.ListN.{length, take, drop, length-append, length-drop, take-append-drop}
use lib.Seq.{take_at, drop_at, drop-drop, take-length, length-take-le}
use Rattle.packet.specs.Placed.{laid}
use Rattle.packet.proofs.Laid.{length-laid}
use Rattle.outgoing.specs.Object.{prefixed}
use Rattle.outgoing.specs.Packets.{packet}

pub record Holds (y content : List ℕ) : Type 0 where
  pub front : List ℕ
  pub behind : List ℕ
  pub three : length front ≡ 3
  pub is : y ≡ front ++ (content ++ behind)
  pub long : 65535 ≤ length y

-- a store that is long enough holds nothing yet
pub holds_none : (y : List ℕ) → 65535 ≤ length y → Holds y []
holds_none y h =
    record {
      front = take 3 y;
      behind = drop 3 y;
      three = length-take-le 3 y (omega arith);
      is = sym (take-append-drop 3 y);
      long = h;
    }

-- bytes laid at a seam
laid_seam : (a r l : List ℕ) (at : ℕ) → length a ≡ at → laid (a ++ r) at l ≡ a ++ (l ++ drop (length l) r)
laid_seam a r l at e =
    let t : take at (a ++ r) ≡ a = take_at a r at e in
    let d : drop (at + length l) (a ++ r) ≡ drop (length l) r = sym (drop-drop (length l) at (a ++ r)) ∙ ap (drop (length l)) (drop_at a r at e) in
    ap (λ (x : List ℕ). x ++ take (length l) l ++ drop (at + length l) (a ++ r)) t
    ∙ ap (λ (x : List ℕ). a ++ x ++ drop (at + length l) (a ++ r)) (take-length l)
    ∙ ap (λ (x : List ℕ). a ++ l ++ x) d
    ∙ append_assoc a l (drop (length l) r)

-- bytes laid behind the content are content
pub holds_laid : (y content l : List ℕ) (at : ℕ) → at ≡ 3 + length content → at + length l ≤ 65535 → Holds y content
    → Holds (laid y at l) (content ++ l)
holds_laid y content l at e b h =
    let a = h.front ++ content in
    let k : length a ≡ at = omega (arith, length-append h.front content, h.three) in
    let w = drop (length l) h.behind in
    record {
      front = h.front;
      behind = w;
      three = h.three;
      is =
          ap (λ (x : List ℕ). laid x at l) (h.is ∙ sym (append_assoc h.front content h.behind))
          ∙ laid_seam a h.behind l at k
          ∙ append_assoc h.front content (l ++ w)
          ∙ ap (λ (x : List ℕ). h.front ++ x) (sym (append_assoc content l w));
      long = omega (arith, length-laid y l at (omega (arith, h.long)), h.long);
    }

-- bytes laid over a gap of the content fill it
pub holds_over : (y content gap rest l : List ℕ) (at : ℕ) → at ≡ 3 + length content → at + length l ≤ 65535 → length gap ≡ length l
    → Holds y (content ++ (gap ++ rest)) → Holds (laid y at l) (content ++ (l ++ rest))
holds_over y content gap rest l at e b g h =
    let a = h.front ++ content in
    let k : length a ≡ at = omega (arith, length-append h.front content, h.three) in
    let w = h.behind in
    let s : content ++ (gap ++ rest) ++ w ≡ content ++ (gap ++ (rest ++ w)) =
    append_assoc content (gap ++ rest) w ∙ ap (λ (x : List ℕ). content ++ x) (append_assoc gap rest w) in
    record {
      front = h.front;
      behind = w;
      three = h.three;
      is =
          ap (λ (x : List ℕ). laid x at l)
          (h.is ∙ ap (λ (x : List ℕ). h.front ++ x) s ∙ sym (append_assoc h.front content (gap ++ (rest ++ w))))
          ∙ laid_seam a (gap ++ (rest ++ w)) l at k
          ∙ ap (λ (x : List ℕ). a ++ (l ++ x)) (drop_at gap (rest ++ w) (length l) g)
          ∙ append_assoc h.front content (l ++ (rest ++ w))
          ∙ ap (λ (x : List ℕ). h.front ++ x)
          (sym (append_assoc content (l ++ rest) w ∙ ap (λ (x : List ℕ). content ++ x) (append_assoc l rest w)));
      long = omega (arith, length-laid y l at (omega (arith, h.long)), h.long);
    }

-- a content's first part is content
pub holds_less : (y content rest : List ℕ) → Holds y (content ++ rest) → Holds y content
holds_less y content rest h =
    record {
      front = h.front;
      behind = rest ++ h.behind;
      three = h.three;
      is = h.is ∙ ap (λ (x : List ℕ). h.front ++ x) (append_assoc content rest h.behind);
      long = h.long;
    }

-- three bytes behind the content are a gap
pub record Gap (y content : List ℕ) : Type 0 where
  pub gap : List ℕ
  pub three : length gap ≡ 3
  pub holds : Holds y (content ++ (gap ++ []))

pub holds_gap : (y content : List ℕ) → 6 + length content ≤ 65535 → Holds y content → Gap y content
holds_gap y content b h =
    let w = h.behind in
    let q = take 3 w in
    let n : length y ≡ length h.front + (length content + length w) =
    ap length h.is ∙ length-append h.front (content ++ w) ∙ ap (λ (k : ℕ). length h.front + k) (length-append content w) in
    record {
      gap = q;
      three = length-take-le 3 w (omega (arith, h.long, h.three));
      holds =
          record {
            front = h.front;
            behind = drop 3 w;
            three = h.three;
            is =
                h.is
                ∙ ap (λ (x : List ℕ). h.front ++ (content ++ x)) (sym (take-append-drop 3 w) ∙ ap (λ (x : List ℕ). x ++ drop 3 w) (sym (append-nil q)))
                ∙ ap (λ (x : List ℕ). h.front ++ x) (sym (append_assoc content (q ++ []) (drop 3 w)));
            long = h.long;
          };
    }

-- the packet that is made of it
pub holds_packet : (last : Bool) (n : ℕ) (y content : List ℕ) → n ≡ 3 + length content → Holds y content
    → take n (prefixed last n y) ≡ packet last content
holds_packet last n y content e h =
    let d : drop 3 y ≡ content ++ h.behind = ap (drop 3) h.is ∙ drop_at h.front (content ++ h.behind) 3 h.three in
    let t : take (length content) (drop 3 y) ≡ content = ap (take (length content)) d ∙ take_at content h.behind (length content) refl in
    let s : n ≡ suc (suc (suc (length content))) = omega arith in
    ap (λ (k : ℕ). take k (prefixed last n y)) s
    ∙ ap (λ (x : List ℕ). take 3 (prefixed last n y) ++ x) t
    ∙ ap (λ (k : ℕ). take 3 (prefixed last k y) ++ content) e

pub prefixed-long : (last : Bool) (n : ℕ) (y : List ℕ) → 65535 ≤ length y → 65535 ≤ length (prefixed last n y)
prefixed-long last n y h = omega (arith, length-drop 3 y)
