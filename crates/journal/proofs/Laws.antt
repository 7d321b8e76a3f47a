-- Joining what packets carry, and reading bytes in two pieces or at once. Assumes nothing.
use Prim.Native.Nat.{ℕ, ◌+◌}
use mathlib.Core.Path.{◌≡◌, refl, ap, ap₂, ◌∙◌}
use mathlib.Core.List.{List, [], ◌∷◌, ◌++◌, append_assoc, append-nil}
use mathlib.Core.Bool.{Bool, true, false}
use mathlib.Core.Option.{Option, none, some}
use native.Mathlib.Omega.{arith}
use lib.ListN.{length, length-append}
use lib.Dec.{leb, ltb}
use Rattle.base.specs.Pick.{pick}
use Rattle.base.specs.Bytes.{be16}
use Rattle.journal.specs.Record.{Record, bare, join_body, joined, body_length, size_of}
use Rattle.journal.specs.Journal.{Read, more, whole, short, read_step, read_up}

-- ---- bodies

body-none : (a : Option (List ℕ)) → join_body a none ≡ a
body-none none = refl
body-none (some a) = refl

body_assoc : (a b c : Option (List ℕ)) → join_body (join_body a b) c ≡ join_body a (join_body b c)
body_assoc none b c = refl
body_assoc (some a) none c = refl
body_assoc (some a) (some b) none = refl
body_assoc (some a) (some b) (some c) = ap some (append_assoc a b c)

pub body-length : (a b : Option (List ℕ)) → body_length (join_body a b) ≡ body_length a + body_length b
body-length none b = omega arith
body-length (some a) none = omega arith
body-length (some a) (some b) = length-append a b

-- ---- what packets carry

pub joined-bare : (c : Record) → joined c bare ≡ c
joined-bare c = ap₂ (λ (h : List ℕ) (b : Option (List ℕ)). record { headers = h; body = b }) (append-nil c.headers) (body-none c.body)

pub joined_assoc : (c d e : Record) → joined (joined c d) e ≡ joined c (joined d e)
joined_assoc c d e =
    ap₂ (λ (h : List ℕ) (b : Option (List ℕ)). record { headers = h; body = b })
    (append_assoc c.headers d.headers e.headers) (body_assoc c.body d.body e.body)

pub size-joined : (c d : Record) → size_of (joined c d) ≡ size_of c + size_of d
size-joined c d = body-length c.body d.body

-- ---- bytes in two pieces

-- what further bytes make of what some bytes made
abbrev pub read_on : Read → List ℕ → Read
read_on (more p) ys = read_up p ys
read_on (whole p) ys = whole p
read_on short ys = short

step_on : (p ys : List ℕ) (r : Read) → read_step p (read_on r ys) ≡ read_on (read_step p r) ys
unfolding read_step
step_on p ys r = go (ltb (length p) 3) (ltb (be16 p 1) 3) (leb (be16 p 1) (length p))
  where
    go : (t u v : Bool)
        → pick t (read_on r ys) (pick u short (pick v (whole p) (read_on r ys))) ≡ read_on (pick t r (pick u short (pick v (whole p) r))) ys
    go true u v = refl
    go false true v = refl
    go false false true = refl
    go false false false = refl

-- Said for whoever reads the journal, and cited nowhere: fed in two pieces or at once, bytes read the same.
pub read-append : (p xs ys : List ℕ) → read_up p (xs ++ ys) ≡ read_on (read_up p xs) ys
unfolding read_up
read-append p [] ys = refl
read-append p (x ∷ xs) ys =
    ap (read_step (p ++ (x ∷ []))) (read-append (p ++ (x ∷ [])) xs ys) ∙ step_on (p ++ (x ∷ [])) ys (read_up (p ++ (x ∷ [])) xs)
