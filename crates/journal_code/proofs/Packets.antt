-- A packet as the code reads it is the request that its bytes are: what stands before the headers, the survey, and the first of some headers.
-- Assumes nothing.
use mathlib.Core.Path.{◌≡◌, refl, sym, ap, ◌∙◌}
use mathlib.Core.Bool.{Bool, true, false, false≢true, true≢false}
use mathlib.Core.List.{List}
use mathlib.Core.Option.{Option, none, some}
use Prim.Native.Nat.{ℕ}
use native.Mathlib.Omega.{arith}
use lib.ListN.{length, get_or}
use lib.Dec.{ltb}
use Rattle.std.specs.Prelude.{Some, None}
use Rattle.base.specs.Pick.{pick}
use Rattle.packet.specs.FirstByte.{first_byte}
use Rattle.packet.specs.Header.{Header, read_headers, first, present}
use Rattle.packet.specs.Packet.{request_by, request_with, request_of, prefix_of}
use Rattle.packet.specs.PacketRead.{known_head, head_by, packet_head}
use Rattle.packet.specs.declared.opcode.Opcode.{Opcode}
use Rattle.packet.specs.declared.opcode.FirstByte.{FirstByte}
use Rattle.packet.specs.declared.packet.Head.{Head}
use Rattle.packet.proofs.PacketLaws.{request_head, request-head, head-place}
use Rattle.std.specs.Prelude.{Option as Maybe, Some, None}
use Rattle.journal.specs.Journal.{list_of}
use Rattle.incoming.specs.Survey.{survey_of, id_of}
use Rattle.incoming.specs.declared.survey.Survey.{Survey}
use Rattle.table.specs.declared.targets.Target.{Target}
use Rattle.connection.specs.Peer.{target_asked, id_in, AskedTarget}
use Rattle.journal_code.specs.Heading.{link_by, reading_of}
use Rattle.journal_code.specs.declared.heading.Link.{Link}

-- what stands before the headers cannot be read
pub headless : (p ids t : List ℕ) → packet_head p ≡ None → None ≡ reading_of (request_of p) ids t
unfolding packet_head request_of
headless p ids t e = go (first_byte (get_or p 0 0)) e
  where
    go : (b : Maybe FirstByte) → head_by b p ≡ None → None ≡ reading_of (request_by b p) ids t
    go None e = refl
    go (Some b) e = by (ltb (length p) (prefix_of b.opcode)) e
      where
        by : (x : Bool) → pick x None (known_head b.opcode b.is_final (prefix_of b.opcode)) ≡ None
            → None ≡ reading_of (pick x none (request_with b.opcode b.is_final p (read_headers p (prefix_of b.opcode)))) ids t
        by true e = refl
        by false e = let z : ◌≡◌ {A = ℕ} 0 1 = cc in absurd (omega arith)

module _ (p : List ℕ) (d : Head) where
  abbrev o : Opcode
  o = d.opcode

  abbrev f : Bool
  f = d.is_final

  abbrev n : ℕ
  n = d.headers

  -- the place of the headers, and what the headers decide
  abbrev Begins : Option (List Header) → Type 0
  Begins r = (n ≡ prefix_of o) × (request_of p ≡ request_with o f p r)

  pub begins : packet_head p ≡ Some d → Begins (read_headers p n)
  unfolding packet_head
  begins e = (head-place (first_byte (get_or p 0 0)) p d e, request-head p ∙ ap (λ (x : Maybe Head). request_head x p) e)

  module _ (ids t : List ℕ) (e : packet_head p ≡ Some d) (v : Survey) (ev : v ≡ survey_of (read_headers p n)) where
    pub unreadable : v.readable ≡ false → None ≡ reading_of (request_of p) ids t
    unfolding survey_of
    unreadable i = rw (begins e).1 (go (read_headers p n) ev)
      where
        go : (r : Option (List Header)) → v ≡ survey_of r → None ≡ reading_of (request_with o f p r) ids t
        go none q = refl
        go (some hs) q = absurd (true≢false (sym (ap (λ (x : Survey). x.readable) q) ∙ i))

    pub heading_is : v.readable ≡ true → (k : Link) → k ≡ link_by v.has_id v.id ids t
        → (a b : Bool) (g : AskedTarget)
        → ((hs : List Header) → read_headers p n ≡ some hs → a ≡ present (first 0x01 hs))
        → ((hs : List Header) → read_headers p n ≡ some hs → b ≡ present (first 0x4E hs))
        → ((hs : List Header) → read_headers p n ≡ some hs → g ≡ target_asked (first 0x46 hs))
        → Some (record {
          opcode = o;
          is_final = f;
          headers = n;
          enable = v.enable;
          named = k.named;
          unknown = k.unknown;
          under = k.under;
          has_name = a;
          has_response = b;
          target = g;
        })
        ≡ reading_of (request_of p) ids t
    unfolding survey_of
    heading_is i k ek a b g fa fb fg = rw (begins e).1 (go (read_headers p n) refl)
      where
        go : (r : Option (List Header)) → read_headers p n ≡ r
            → Some (record {
              opcode = o;
              is_final = f;
              headers = n;
              enable = v.enable;
              named = k.named;
              unknown = k.unknown;
              under = k.under;
              has_name = a;
              has_response = b;
              target = g;
            })
            ≡ reading_of (request_with o f p r) ids t
        go none q = absurd (false≢true (sym (ap (λ (x : Survey). x.readable) (ev ∙ ap survey_of q)) ∙ i))
        go (some hs) q = rw (fa hs q, fb hs q, fg hs q, ek, ev ∙ ap survey_of q, (begins e).0) refl

-- ---- the first ConnectionID of an answer

pub id_given_lem : (r : Option (List Header)) (v : Survey) → v ≡ survey_of r → v.has_id ≡ true → Some v.id ≡ id_in (first 0xCB (list_of r))
unfolding survey_of
id_given_lem none v e h = absurd (let z : ◌≡◌ {A = ℕ} 0 1 = cc in omega arith)
id_given_lem (some hs) v e h = rw e (go (first 0xCB hs) (rw e at h))
  where
    go : (o : Option (List ℕ)) → present o ≡ true → Some (id_of o) ≡ id_in o
    go none k = absurd (let z : ◌≡◌ {A = ℕ} 0 1 = cc in omega arith)
    go (some x) k = refl

pub id_missing : (r : Option (List Header)) (v : Survey) → v ≡ survey_of r → v.has_id ≡ false → None ≡ id_in (first 0xCB (list_of r))
unfolding survey_of first
id_missing none v e h = refl
id_missing (some hs) v e h = go (first 0xCB hs) (rw e at h)
  where
    go : (o : Option (List ℕ)) → present o ≡ false → None ≡ id_in o
    go none k = refl
    go (some x) k = absurd (let z : ◌≡◌ {A = ℕ} 0 1 = cc in omega arith)
