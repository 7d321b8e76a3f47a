-- Bytes that came from elsewhere are put one after the other. Assumes nothing.
use Rattle.std.proofs.Common.{◌≡◌, ℕ, ◌+◌, ◌<◌, ◌≤◌, List, [], ◌∷◌, length, get_or, drop, sym, ap, ◌∙◌, add-one, drop_of_length-le, drop-cons}
use Rattle.lines.specs.Word.{Filled, filled}
use Rattle.lines.specs.Output.{put_bytes}
use Rattle.lines.specs.Text.{shown, put_shown}

-- the byte at `i` is put, and those behind it are left
pub shown_on : (s : List ℕ) (i before : ℕ) (out : List ℕ) (n : ℕ) (z : Filled) (out' : List ℕ) (n' : ℕ) → i < length s
    → put_shown out n before (drop i s) ≡ z → filled out' n' ≡ put_bytes out n (shown before (get_or s i 0) ∷ [])
    → put_shown out' n' (get_or s i 0) (drop (i + 1) s) ≡ z
shown_on s i before out n z out' n' h k e =
    let d : drop i s ≡ get_or s i 0 ∷ drop (i + 1) s = drop-cons s i 0 h ∙ ap (λ (j : ℕ). get_or s i 0 ∷ drop j s) (sym (add-one i)) in
    ap (λ (m : Filled). put_shown m.bytes m.used (get_or s i 0) (drop (i + 1) s)) e ∙ sym (ap (put_shown out n before) d) ∙ k

-- none is left
pub shown_all : (s : List ℕ) (i before : ℕ) (out : List ℕ) (n : ℕ) (z : Filled) → length s ≤ i → put_shown out n before (drop i s) ≡ z
    → filled out n ≡ z
shown_all s i before out n z h k = sym (ap (put_shown out n before) (drop_of_length-le s h)) ∙ k
