-- The texts of headers there and back: what is written is read as it was, and which bytes are written as they were read. Assumes nothing.
use mathlib.Core.Path.{◌≡◌, sym, ap, ◌∙◌, subst}
use mathlib.Core.Bool.{true}
use mathlib.Core.List.{List}
use Prim.Native.Nat.{ℕ}
use Rattle.text.specs.Unicode.{scalars16, scalars8, well_formed16, well_formed8, Scalars, NoZero, Octets, text8, utf16be}
use Rattle.text.specs.Text.{unicode_text, ascii_text, unicode_bytes}
use Rattle.text.proofs.Back16.{scalars16-utf16be, scalars16_valid, scalars16_nonzero, utf16be-scalars16, utf16be-well_formed}
use Rattle.text.proofs.Back8.{lossy-text8, scalars8-text8, scalars8_valid, scalars8_nonzero, text8-scalars8, text8-well_formed}

-- ---- scalar values, none of them zero

module _ (cs : List ℕ) (s : Scalars cs) (z : NoZero cs) where
  pub unicode-there_and_back : unicode_text (unicode_bytes (text8 cs)) ≡ text8 cs
  unfolding unicode_text unicode_bytes
  unicode-there_and_back = rw (lossy-text8 cs s, scalars16-utf16be cs s z)

  pub ascii_as_it_is : ascii_text (text8 cs) ≡ text8 cs
  unfolding ascii_text
  ascii_as_it_is = rw (scalars8-text8 cs s z)

-- ---- texts: a text is well-formed where it is some scalar values' UTF-8

-- what is read is a well-formed text
pub unicode-well_formed : (s : List ℕ) → Octets s → well_formed8 (unicode_text s) ≡ true
unfolding unicode_text
unicode-well_formed s o = text8-well_formed (scalars16 s) (scalars16_valid s o) (scalars16_nonzero s)

pub ascii_well_formed : (s : List ℕ) → well_formed8 (ascii_text s) ≡ true
unfolding ascii_text
ascii_well_formed s = text8-well_formed (scalars8 s) (scalars8_valid s) (scalars8_nonzero s)

-- a well-formed text is read as it is, and as it was after it is written in UTF-16
module _ (t : List ℕ) (w : well_formed8 t ≡ true) where
  pub ascii_same : ascii_text t ≡ t
  unfolding ascii_text
  ascii_same = text8-scalars8 t w

  pub unicode-same : unicode_text (unicode_bytes t) ≡ t
  unfolding ascii_text
  unicode-same =
      subst (λ (l : List ℕ). unicode_text (unicode_bytes l) ≡ l) ascii_same
      (unicode-there_and_back (scalars8 t) (scalars8_valid t) (scalars8_nonzero t))

-- ---- bytes of a header: they are what is written for what is read from them, just where they are well-formed

module _ (s : List ℕ) (o : Octets s) where
  pub unicode-canonical : well_formed16 s ≡ true → unicode_bytes (unicode_text s) ≡ s
  unfolding unicode_text unicode_bytes
  unicode-canonical w = ap utf16be (lossy-text8 (scalars16 s) (scalars16_valid s o)) ∙ utf16be-scalars16 s o w

  pub canonical-unicode : unicode_bytes (unicode_text s) ≡ s → well_formed16 s ≡ true
  unfolding unicode_text unicode_bytes
  canonical-unicode e =
      let q : utf16be (scalars16 s) ≡ s = sym (ap utf16be (lossy-text8 (scalars16 s) (scalars16_valid s o))) ∙ e in
      subst (λ (l : List ℕ). well_formed16 l ≡ true) q (utf16be-well_formed (scalars16 s) (scalars16_valid s o) (scalars16_nonzero s))

pub canonical_ascii : (s : List ℕ) → ascii_text s ≡ s → well_formed8 s ≡ true
canonical_ascii s e = subst (λ (l : List ℕ). well_formed8 l ≡ true) e (ascii_well_formed s)
