-- Gathering header by header: what becomes of one header, and what is left to gather after it. Assumes nothing.
use mathlib.Core.Path.{◌≡◌, refl, sym, ap, ◌∙◌}
use mathlib.Core.List.{List, [], ◌∷◌}
use mathlib.Core.Bool.{Bool, true, false}
use mathlib.Core.Logic.{inl, inr}
use mathlib.Core.Option.{Option, none, some}
use Prim.Native.Nat.{ℕ, ◌≤◌}
use native.Mathlib.Omega.{arith}
use lib.ListN.{length}
use denote.Enum.Declared.{tag_of}
use types.Run.{OneOf}
use Rattle.base.specs.Pick.{pick}
use Rattle.packet.specs.declared.header.HeaderEncoding.{HeaderEncoding}
use Rattle.packet.specs.declared.header.HeaderAt.{HeaderAt}
use Rattle.packet.specs.declared.header.HeaderAt.TheVariants.{At, Unreadable, End}
use Rattle.packet.specs.Header.{Header, bytes_of, part, push, header_at_of, read_headers}
use Rattle.packet.specs.HeaderList.{is_read, readable_from}
use Rattle.packet.specs.contracts.header.HeaderAt.{the_type}
use Rattle.packet.proofs.HeaderLaws.{Here, push-read, by_cursor_lem}
use Rattle.incoming.specs.declared.gather.Keep.{Keep}
use Rattle.incoming.specs.Gather.{Gathering, stored, dropped, kept, is_stored, is_dropped, keep_bytes, store_bytes, gather_by, gather_one, gather_all, headers_of}
use Rattle.incoming.proofs.Gathers.{one-within}

-- ---- one header, by the two tests

module _ (k : Keep) (limit : ℕ) (g : Gathering) (h : Header) where
  by_tests : (s d : Bool) → is_stored k h.id ≡ s → is_dropped k h.id ≡ d
      → gather_by (pick s stored (pick d dropped kept)) limit g h ≡ gather_one k limit g h
  unfolding gather_one
  by_tests s d e f = rw (e, f)

  pub one-stored : is_stored k h.id ≡ true → store_bytes limit g h.value ≡ gather_one k limit g h
  one-stored e = by_tests true (is_dropped k h.id) e refl

  pub one-dropped : is_stored k h.id ≡ false → is_dropped k h.id ≡ true → g ≡ gather_one k limit g h
  one-dropped e f = by_tests false true e f

  pub one_kept : is_stored k h.id ≡ false → is_dropped k h.id ≡ false → keep_bytes g (bytes_of h) ≡ gather_one k limit g h
  one_kept e f = by_tests false false e f

-- ---- what is left to gather from a place

-- the headers from there on can be read, gathering them gives the whole, and what is gathered is within its bounds
pub record Left (p : List ℕ) (at : ℕ) (k : Keep) (limit : ℕ) (g whole : Gathering) : Type 0 where
  pub readable : readable_from p at ≡ true
  pub gives : whole ≡ gather_all k limit (headers_of (read_headers p at)) g
  pub kept-room : g.got.kept ≤ 65535
  pub body-within : g.got.body ≤ limit

pushed : (k : Keep) (limit : ℕ) (g : Gathering) (h : Header) (r : Option (List Header)) → is_read r ≡ true → g.got.full ≡ false
    → gather_all k limit (headers_of (push h r)) g ≡ gather_all k limit (headers_of r) (gather_one k limit g h)
unfolding gather_all
pushed k limit g h none e f = absurd (let z : ◌≡◌ {A = ℕ} 0 1 = cc in omega arith)
pushed k limit g h (some hs) e f = ap (λ (t : Bool). pick t g (gather_all k limit hs (gather_one k limit g h))) f

gather_full : (k : Keep) (limit : ℕ) (g : Gathering) (hs : List Header) → g.got.full ≡ true → gather_all k limit hs g ≡ g
unfolding gather_all
gather_full k limit g [] f = refl
gather_full k limit g (h ∷ hs) f = ap (λ (t : Bool). pick t g (gather_all k limit hs (gather_one k limit g h))) f

module _ (p : List ℕ) (at : ℕ) (k : Keep) (limit : ℕ) (g whole : Gathering) (l : Left p at k limit g whole) where
  with_list : (r : Option (List Header)) → read_headers p at ≡ r → whole ≡ gather_all k limit (headers_of r) g
  with_list r e = l.gives ∙ ap (λ (r : Option (List Header)). gather_all k limit (headers_of r) g) e

  -- a header, and what is left after it
  pub turn : (id : ℕ) (e : HeaderEncoding) (from to : ℕ) → Here p at id e from to → g.got.full ≡ false
      → 65535 ≤ length g.headers → limit ≤ length g.body
      → (n : Gathering) → n ≡ gather_one k limit g (record { id = id; value = part p from to }) → Left p to k limit n whole
  turn id e from to w f a b n is =
      let h : Header = record { id = id; value = part p from to } in
      let r : readable_from p to ≡ true = sym (push-read h (read_headers p to)) ∙ sym (ap is_read w.list) ∙ l.readable in
      let o = one-within k limit h g l.kept-room l.body-within a b in
      rw is
      (record {
        readable = r;
        gives = with_list (push h (read_headers p to)) w.list ∙ pushed k limit g h (read_headers p to) r f;
        kept-room = o.0;
        body-within = o.1;
      })

  -- a header that did not fit came before
  pub stops : g.got.full ≡ true → g ≡ whole
  stops f = sym (l.gives ∙ gather_full k limit g (headers_of (read_headers p at)) f)

  -- no header follows
  none_left : (r : Option (List Header)) → read_headers p at ≡ r → headers_of r ≡ [] → g ≡ whole
  unfolding gather_all
  none_left r e n = sym (with_list r e ∙ ap (λ (hs : List Header). gather_all k limit hs g) n)

  pub ends : (a : HeaderAt) → a ≡ header_at_of p at → OneOf (1 ∷ 2 ∷ []) (tag_of the_type a) → g ≡ whole
  ends (At id e from to) is (inl z) = absurd (omega arith)
  ends (At id e from to) is (inr z) = absurd (omega arith)
  ends Unreadable is z = none_left none (by_cursor_lem p at Unreadable (sym is)) refl
  ends End is z = none_left (some []) (by_cursor_lem p at End (sym is)).1 refl
