-- The definition of canonical bytes against the functions: what the reader reads are scalar values without a zero, and those the writer gives
-- back. Assumes nothing.
use mathlib.Core.Path.{◌≡◌, refl, ap, ◌∙◌}
use mathlib.Core.List.{List, [], ◌∷◌, ◌++◌}
use Prim.Native.Nat.{ℕ, ◌+◌, ◌*◌, ◌/◌, ◌%◌, ◌^◌, ◌<◌}
use native.Mathlib.Omega.{arith}
use lib.ListN.{length}
use borrow.Author.Tests.{lt-ltb}
use Rattle.base.specs.Bytes.{be32, bytes32}
use Rattle.text.specs.Unicode.{scalars8, scalars16, text8, lossy, Octets}
use Rattle.text.specs.Text.{unicode_text, ascii_text}
use Rattle.text.proofs.Back16.{scalars16_valid}
use Rattle.text.proofs.Back8.{lossy-text8, scalars8_valid, scalars8_nonzero, scalars8-text8}
use Rattle.packet.specs.Modes.{permissions_of}
use Rattle.packet.specs.Canonical.{terminated16, rewritten}
use Rattle.packet.specs.Rewriting.{Rewriting}

unicode-rewritten : (id : ℕ) (v : List ℕ) → id < 64 → Octets v → terminated16 (lossy (unicode_text v)) ≡ rewritten id v
unfolding rewritten unicode_text
unicode-rewritten id v h o = rw (lossy-text8 (scalars16 v) (scalars16_valid v o), lt-ltb id 64 h) refl

-- text that was read up to its zero has none
ascii_again : (v : List ℕ) → ascii_text (ascii_text v) ≡ text8 (scalars8 v)
unfolding ascii_text
ascii_again v = ap text8 (scalars8-text8 (scalars8 v) (scalars8_valid v) (scalars8_nonzero v))

type-rewritten : (v : List ℕ) → ascii_text (ascii_text v) ++ (0 ∷ []) ≡ rewritten 0x42 v
unfolding rewritten
type-rewritten v = ap (λ (t : List ℕ). t ++ (0 ∷ [])) (ascii_again v)

time-rewritten : (v : List ℕ) → ascii_text (ascii_text v) ≡ rewritten 0x44 v
unfolding rewritten
time-rewritten v = ascii_again v

-- four bytes as a number of which the top byte is dropped
low-bytes : (a b c d : ℕ) → b < 256 → c < 256 → d < 256
    → bytes32 ((((a * 256 + b) * 256 + c) * 256 + d) % 2 ^ 24) ≡ 0 ∷ b ∷ c ∷ d ∷ []
low-bytes a b c d p q r =
    let m = (b * 256 + c) * 256 + d in
    let n : (((a * 256 + b) * 256 + c) * 256 + d) % 2 ^ 24 ≡ m = omega arith in
    let w : m / 16777216 % 256 ≡ 0 = omega arith in
    let x : m / 65536 % 256 ≡ b = omega arith in
    let y : m / 256 % 256 ≡ c = omega arith in
    let z : m % 256 ≡ d = omega arith in
    ap bytes32 n ∙ simp (w, x, y, z)

permissions-rewritten : (v : List ℕ) → length v ≡ 4 → Octets v → bytes32 (permissions_of (be32 v 0)) ≡ rewritten 0xD6 v
unfolding rewritten
permissions-rewritten (a ∷ b ∷ c ∷ d ∷ []) h o = low-bytes a b c d (o 1) (o 2) (o 3)
permissions-rewritten [] h o = absurd (omega arith)
permissions-rewritten (a ∷ []) h o = absurd (omega arith)
permissions-rewritten (a ∷ b ∷ []) h o = absurd (omega arith)
permissions-rewritten (a ∷ b ∷ c ∷ []) h o = absurd (omega arith)
permissions-rewritten (a ∷ b ∷ c ∷ d ∷ e ∷ l) h o = absurd (omega arith)

pub rewriting : Rewriting
rewriting =
    record {
      unicode = unicode-rewritten;
      type = type-rewritten;
      time = time-rewritten;
      permissions = permissions-rewritten;
    }
