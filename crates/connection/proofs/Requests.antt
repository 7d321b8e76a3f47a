-- The walk over a Connect's headers: at every place, what is noted and what is left give each header's place. Assumes nothing.
use Rattle.std.proofs.Common.{◌≡◌, ℕ, ◌≤◌, Bool, true, false, eqb, List, [], length, sym, refl, ap, ◌∙◌, arith, le-leb}
use mathlib.Core.Option.{Option, none, some}
use Rattle.base.specs.Pick.{pick}
use Rattle.base.specs.Place.{Place, span, Some, None}
use Rattle.packet.specs.Header.{Header, header_at_of, read_headers, first_place}
use Rattle.packet.specs.HeaderList.{is_read, readable_from}
use Rattle.packet.specs.declared.header.HeaderEncoding.{HeaderEncoding}
use Rattle.packet.specs.declared.header.HeaderAt.TheVariants.{At, Unreadable, End}
use Rattle.packet.proofs.HeaderLaws.{by_cursor_lem, first_step, push-read}
use Rattle.connection.specs.declared.request.ConnectRequest.{ConnectRequest}
use Rattle.journal.specs.Journal.{list_of}
use Rattle.connection.specs.Pieces.{first_in, headers_from}
use Rattle.connection.specs.Request.{connect_request, headerless, noted_found, noted_request, or_found}

-- the place of the first header with an id, if `f` was found before `at`
abbrev Left : ℕ → List ℕ → ℕ → ℕ → Place → Type 0
Left id s from at f = first_place id s from ≡ or_found f (first_place id s at)

-- what was noted before `at`
pub record Walked (s : List ℕ) (from at : ℕ) (c : ConnectRequest) : Type 0 where
  pub starts : c.from ≡ from
  pub same : readable_from s from ≡ readable_from s at
  pub target : Left 0x46 s from at c.target
  pub challenge : Left 0x4D s from at c.challenge
  pub response : Left 0x4E s from at c.response
  pub mode : Left 0x97 s from at c.mode

begins-one : (id : ℕ) (s : List ℕ) (from : ℕ) (f : Place) → f ≡ None → Left id s from from f
begins-one id s from f e = sym (ap (λ (f : Place). or_found f (first_place id s from)) e)

-- nothing is noted before the first header
pub begins : (s : List ℕ) (from : ℕ) (c : ConnectRequest) → c ≡ headerless from → Walked s from from c
begins s from c e =
    record {
      starts = ap (λ (c : ConnectRequest). c.from) e;
      same = refl;
      target = begins-one 0x46 s from c.target (ap (λ (c : ConnectRequest). c.target) e);
      challenge = begins-one 0x4D s from c.challenge (ap (λ (c : ConnectRequest). c.challenge) e);
      response = begins-one 0x4E s from c.response (ap (λ (c : ConnectRequest). c.response) e);
      mode = begins-one 0x97 s from c.mode (ap (λ (c : ConnectRequest). c.mode) e);
    }

found_on : (f rest : Place) (t : Bool) (a b : ℕ) → or_found f (pick t (span a b) rest) ≡ or_found (pick t (or_found f (span a b)) f) rest
found_on (Some p) rest true a b = refl
found_on (Some p) rest false a b = refl
found_on None rest true a b = refl
found_on None rest false a b = refl

goes_one : (id i : ℕ) (s : List ℕ) (from at a b : ℕ) (e : HeaderEncoding) (f g : Place) → header_at_of s at ≡ At i e a b → Left id s from at f
    → g ≡ noted_found f id i a b → Left id s from b g
goes_one id i s from at a b e f g h l n =
    l ∙ ap (or_found f) (first_step id s at (At i e a b) h) ∙ found_on f (first_place id s b) (eqb i id) a b
    ∙ sym (ap (λ (f : Place). or_found f (first_place id s b)) n)

-- a header is noted
pub goes_on : (s : List ℕ) (from at i : ℕ) (e : HeaderEncoding) (a b : ℕ) (c d : ConnectRequest) → header_at_of s at ≡ At i e a b → Walked s from at c
    → d ≡ noted_request c i a b → Walked s from b d
unfolding noted_request
goes_on s from at i e a b c d h w n =
    record {
      starts = ap (λ (c : ConnectRequest). c.from) n ∙ w.starts;
      same = w.same ∙ ap is_read (by_cursor_lem s at (At i e a b) h).list ∙ push-read _ (read_headers s b);
      target = goes_one 0x46 i s from at a b e c.target d.target h w.target (ap (λ (c : ConnectRequest). c.target) n);
      challenge = goes_one 0x4D i s from at a b e c.challenge d.challenge h w.challenge (ap (λ (c : ConnectRequest). c.challenge) n);
      response = goes_one 0x4E i s from at a b e c.response d.response h w.response (ap (λ (c : ConnectRequest). c.response) n);
      mode = goes_one 0x97 i s from at a b e c.mode d.mode h w.mode (ap (λ (c : ConnectRequest). c.mode) n);
    }

found_all : (f : Place) → or_found f None ≡ f
found_all (Some p) = refl
found_all None = refl

ends-one : (id : ℕ) (s : List ℕ) (from at : ℕ) (f : Place) → header_at_of s at ≡ End → readable_from s from ≡ true → Left id s from at f → f ≡ first_in id s from
unfolding first_in
ends-one id s from at f h r l =
    sym (ap (λ (t : Bool). pick t (first_place id s from) None) r ∙ l ∙ ap (or_found f) (first_step id s at End h) ∙ found_all f)

-- all headers are read
pub ends : (s : List ℕ) (from at : ℕ) (c : ConnectRequest) → header_at_of s at ≡ End → Walked s from at c → c ≡ connect_request s from
unfolding connect_request
ends s from at c h w =
    let r : readable_from s from ≡ true = w.same ∙ ap is_read (by_cursor_lem s at End h).1 in
    rw (
      ← ends-one 0x46 s from at c.target h r w.target,
      ← ends-one 0x4D s from at c.challenge h r w.challenge,
      ← ends-one 0x4E s from at c.response h r w.response,
      ← ends-one 0x97 s from at c.mode h r w.mode,
      r,
      ← w.starts,
    )

-- a header cannot be read
pub stops : (s : List ℕ) (from at : ℕ) (c d : ConnectRequest) → header_at_of s at ≡ Unreadable → Walked s from at c → d ≡ headerless (length s)
    → d ≡ connect_request s from
unfolding connect_request first_in
stops s from at c d h w e = rw (w.same, by_cursor_lem s at Unreadable h) e

-- ---- what the places are

-- no header stands at the end
pub at_end : (s : List ℕ) → read_headers s (length s) ≡ some []
unfolding header_at_of
at_end s = let n : length s ≤ length s = omega arith in (by_cursor_lem s (length s) End (simp (le-leb _ _ n))).1

-- headers that cannot be read are as none
from-same : (s : List ℕ) (from : ℕ) → headers_from s (pick (readable_from s from) from (length s)) ≡ headers_from s from
from-same s from = go (read_headers s from) refl
  where
    go : (r : Option (List Header)) → read_headers s from ≡ r → headers_from s (pick (is_read r) from (length s)) ≡ list_of r
    go none e = ap (λ (r : Option (List Header)). list_of r) (at_end s)
    go (some hs) e = ap (λ (r : Option (List Header)). list_of r) e

first-same : (id : ℕ) (s : List ℕ) (from : ℕ) → first_in id s from ≡ first_in id s (pick (readable_from s from) from (length s))
unfolding first_in header_at_of
first-same id s from = go (read_headers s from) refl
  where
    go : (r : Option (List Header)) → read_headers s from ≡ r
        → pick (is_read r) (first_place id s from) None ≡ first_in id s (pick (is_read r) from (length s))
    go none e =
        let n : length s ≤ length s = omega arith in
        let h = first_step id s (length s) End (simp (le-leb _ _ n)) in
        sym (ap (λ (t : Bool). pick t (first_place id s (length s)) None) (ap is_read (at_end s)) ∙ h)
    go (some hs) e = sym (ap (λ (t : Bool). pick t (first_place id s from) None) (ap is_read e))

-- a Connect's headers as they were read in one walk
pub record Finds (s : List ℕ) (from : ℕ) (c : ConnectRequest) : Type 0 where
  pub headers : headers_from s c.from ≡ headers_from s from
  pub target : c.target ≡ first_in 0x46 s from
  pub challenge : c.challenge ≡ first_in 0x4D s from
  pub response : c.response ≡ first_in 0x4E s from
  pub mode : c.mode ≡ first_in 0x97 s from
  pub again : c.target ≡ first_in 0x46 s c.from

pub finds : (s : List ℕ) (from : ℕ) (c : ConnectRequest) → c ≡ connect_request s from → Finds s from c
unfolding connect_request
finds s from c e =
    let n : c.from ≡ pick (readable_from s from) from (length s) = ap (λ (c : ConnectRequest). c.from) e in
    let t : c.target ≡ first_in 0x46 s from = ap (λ (c : ConnectRequest). c.target) e in
    record {
      headers = ap (λ (n : ℕ). headers_from s n) n ∙ from-same s from;
      target = t;
      challenge = ap (λ (c : ConnectRequest). c.challenge) e;
      response = ap (λ (c : ConnectRequest). c.response) e;
      mode = ap (λ (c : ConnectRequest). c.mode) e;
      again = t ∙ first-same 0x46 s from ∙ sym (ap (λ (n : ℕ). first_in 0x46 s n) n);
    }
