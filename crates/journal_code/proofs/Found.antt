-- The first header of an id, by its place in a packet whose headers can all be read. Assumes nothing.
use mathlib.Core.Path.{◌≡◌, sym, ap, ◌∙◌}
use mathlib.Core.List.{List}
use mathlib.Core.Option.{Option, some}
use Prim.Native.Nat.{ℕ, ◌≤◌}
use lib.ListN.{length}
use Rattle.std.specs.Prelude.{is_some, Some}
use Rattle.base.specs.Place.{Place, span, None}
use Rattle.packet.specs.Header.{Header, read_headers, first, present, first_place, part}
use Rattle.packet.specs.Tags.{bytes_at}
use Rattle.packet.proofs.HeaderLaws.{first-agrees, is_some-present, first_found}
use Rattle.table.specs.Targets.{target_by}
use Rattle.connection.specs.Peer.{target_asked}

module _ (id : ℕ) (p : List ℕ) (at : ℕ) where
  -- where the first header stands is what it is
  pub value : (hs : List Header) → read_headers p at ≡ some hs → (f : Place) → first_place id p at ≡ f → first id hs ≡ bytes_at p f
  value hs e f q = sym (first-agrees id p at hs e) ∙ ap (bytes_at p) q

  pub there : (hs : List Header) → read_headers p at ≡ some hs → is_some (first_place id p at) ≡ present (first id hs)
  there hs e = is_some-present p (first_place id p at) ∙ ap (λ (v : Option (List ℕ)). present v) (first-agrees id p at hs e)

  pub bounds : (a b : ℕ) → first_place id p at ≡ span a b → (a ≤ b) × (b ≤ length p)
  bounds a b q = let w = first_found id p at a b q in (w.stands.past, w.stands.fits)

pub no_target : (p : List ℕ) (at : ℕ) (hs : List Header) → read_headers p at ≡ some hs → first_place 0x46 p at ≡ None
    → None ≡ target_asked (first 0x46 hs)
no_target p at hs e q = sym (ap (λ (v : Option (List ℕ)). target_asked v) (value 0x46 p at hs e None q))

pub the_target : (p : List ℕ) (at : ℕ) (hs : List Header) → read_headers p at ≡ some hs → (a b : ℕ) → first_place 0x46 p at ≡ span a b
    → Some (target_by (part p a b)) ≡ target_asked (first 0x46 hs)
the_target p at hs e a b q = sym (ap (λ (v : Option (List ℕ)). target_asked v) (value 0x46 p at hs e (span a b) q))
