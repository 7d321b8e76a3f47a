-- What stands in front of the packet store once bytes were taken: what had begun, and then the bytes that were taken. Assumes nothing.
use mathlib.Core.Path.{◌≡◌, refl, sym, ap, ◌∙◌, subst}
use mathlib.Core.List.{List, [], ◌∷◌, ◌++◌, append_assoc, append-nil}
use Prim.Native.Nat.{ℕ, suc, ◌+◌, ◌-◌, ◌≤◌}
use native.Mathlib.Omega.{arith}
use lib.ListN.{length, take, set, length-set}
use lib.Seq.{take-nil, take-suc-set}
use Rattle.incoming.specs.Frame.{Frames, frame_end, frames_at, framed}
use Rattle.incoming.specs.declared.frame.Frame.{Frame}
use Rattle.incoming.specs.declared.frame.Frame.TheVariants.{More, Whole, Short}

-- as many bytes more stand in the store as were taken
abbrev Counted : ℕ → ℕ → Frames → Type 0
Counted b t f = (f.result.begun + t ≡ b + f.result.taken) × (t ≤ f.result.taken)

counted : (p i : List ℕ) (b t : ℕ) → Counted b t (framed p b t i)
unfolding framed
counted p [] b t = (refl, omega arith)
counted p (x ∷ xs) b t = go (frame_end (set p b x) (b + 1)) (counted (set p b x) xs (b + 1) (t + 1))
  where
    rest : Frames
    rest = framed (set p b x) (b + 1) (t + 1) xs

    go : (f : Frame) → Counted (b + 1) (t + 1) rest → Counted b t (frames_at f (b + 1) (t + 1) (set p b x) rest)
    go More (h, k) = (omega (arith, h), omega (arith, k))
    go Whole h = (omega arith, omega arith)
    go Short h = (omega arith, omega arith)

pub begun_is : (p i : List ℕ) (b : ℕ) → (framed p b 0 i).result.begun ≡ b + (framed p b 0 i).result.taken
begun_is p i b = let h = (counted p i b 0).0 in omega (arith, h)

-- the front of the store
abbrev Fronted : List ℕ → List ℕ → ℕ → ℕ → Frames → Type 0
Fronted p i b t f = f.result.begun ≤ length p → take f.result.begun f.packet ≡ take b p ++ take (f.result.taken - t) i

one_more : (p : List ℕ) (x : ℕ) (b : ℕ) → b + 1 ≤ length p → take (b + 1) (set p b x) ≡ take b p ++ (x ∷ [])
one_more p x b h = let e : b + 1 ≡ suc b = omega arith in ap (λ (n : ℕ). take n (set p b x)) e ∙ take-suc-set p b x (omega (arith, h))

fronted : (p i : List ℕ) (b t : ℕ) → Fronted p i b t (framed p b t i)
unfolding framed
fronted p [] b t = λ h. sym (ap (λ (l : List ℕ). take b p ++ l) (take-nil (t - t)) ∙ append-nil (take b p))
fronted p (x ∷ xs) b t = go (frame_end (set p b x) (b + 1)) (counted (set p b x) xs (b + 1) (t + 1)) (fronted (set p b x) xs (b + 1) (t + 1))
  where
    rest : Frames
    rest = framed (set p b x) (b + 1) (t + 1) xs

    last : (n : ℕ) → n ≡ 1 → b + 1 ≤ length p → take (b + 1) (set p b x) ≡ take b p ++ take n (x ∷ xs)
    last n e h = one_more p x b h ∙ ap (λ (k : ℕ). take b p ++ take k (x ∷ xs)) (sym e)

    go : (f : Frame) → Counted (b + 1) (t + 1) rest → Fronted (set p b x) xs (b + 1) (t + 1) rest
        → Fronted p (x ∷ xs) b t (frames_at f (b + 1) (t + 1) (set p b x) rest)
    go More (h, k) r n =
        let e : suc (rest.result.taken - (t + 1)) ≡ rest.result.taken - t = omega (arith, k) in
        r (subst (λ (m : ℕ). rest.result.begun ≤ m) (sym (length-set p b x)) n)
        ∙ ap (λ (l : List ℕ). l ++ take (rest.result.taken - (t + 1)) xs) (one_more p x b (omega (arith, h, k, n)))
        ∙ append_assoc (take b p) (x ∷ []) (take (rest.result.taken - (t + 1)) xs)
        ∙ ap (λ (m : ℕ). take b p ++ take m (x ∷ xs)) e
    go Whole h r n = last (t + 1 - t) (omega arith) n
    go Short h r n = last (t + 1 - t) (omega arith) n

pub front_is : (p i : List ℕ) (b : ℕ) → (framed p b 0 i).result.begun ≤ length p
    → take (framed p b 0 i).result.begun (framed p b 0 i).packet ≡ take b p ++ take (framed p b 0 i).result.taken i
front_is p i b h =
    let e : (framed p b 0 i).result.taken - 0 ≡ (framed p b 0 i).result.taken = omega arith in
    fronted p i b 0 h ∙ ap (λ (n : ℕ). take b p ++ take n i) e
