-- Bytes that are put in between others in a store: what stands behind them is moved up first. Assumes nothing.
use mathlib.Core.Path.{◌≡◌, sym, ap, ap₂, ◌∙◌}
use mathlib.Core.List.{List, ◌++◌, append_assoc}
use Prim.Native.Nat.{ℕ, ◌+◌, ◌≤◌}
use native.Mathlib.Omega.{arith}
use lib.ListN.{length, take, drop}
use lib.Seq.{take-length, length-take-le, take-append-le, take-take, drop_at}
use Rattle.packet.specs.Header.{part}
use Rattle.packet.specs.Placed.{laid}
use Rattle.packet.proofs.HeaderBytes.{part_length}
use Rattle.outgoing.specs.Queue.{put_in}

-- ---- a store with bytes laid into it, by its three runs

pub laid_runs : (d l : List ℕ) (at : ℕ) → laid d at l ≡ take at d ++ (l ++ drop (at + length l) d)
laid_runs d l at = simp (take-length l, append_assoc)

-- what stands before the bytes stays
pub laid-before : (d l : List ℕ) (at n : ℕ) → n ≤ at → at ≤ length d → take n (laid d at l) ≡ take n d
laid-before d l at n h k =
    ap (take n) (laid_runs d l at)
    ∙ take-append-le n (take at d) (l ++ drop (at + length l) d) (omega (arith, length-take-le at d k))
    ∙ take-take n at d h

-- what stands from them on
pub laid_from : (d l : List ℕ) (at n : ℕ) → n ≡ at → at ≤ length d → drop n (laid d at l) ≡ l ++ drop (at + length l) d
laid_from d l at n e k =
    ap (drop n) (laid_runs d l at) ∙ drop_at (take at d) (l ++ drop (at + length l) d) n (length-take-le at d k ∙ sym e)

-- ---- moved up, and others laid in front

pub between : (d l : List ℕ) (at n place : ℕ) → place ≡ at + length l → at ≤ n → n + length l ≤ length d
    → laid (laid d place (part d at n)) at l ≡ put_in d at n l
unfolding put_in
between d l at n place e h k =
    let p = part d at n in
    let s = part_length d at n (omega arith) in
    let m : place + length p ≡ n + length l = omega arith in
    laid_runs (laid d place p) l at
    ∙ ap₂ (λ (u v : List ℕ). u ++ (l ++ v)) (laid-before d p place at (omega arith) (omega arith))
    (laid_from d p place (at + length l) (sym e) (omega arith))
    ∙ ap (λ (r : ℕ). take at d ++ (l ++ (p ++ drop r d))) m
