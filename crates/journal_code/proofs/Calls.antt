-- What the calls find once their tests are known: the bounds of a state that fits its stores, a packet by what it reads as, and how far the bytes
-- have come. Assumes nothing.
use mathlib.Core.Path.{◌≡◌, refl, sym, ap, ◌∙◌, subst}
use mathlib.Core.List.{List, [], ◌∷◌}
use mathlib.Core.Bool.{Bool, true, false, ◌&&◌, false≢true}
use mathlib.Core.Option.{Option, none, some}
use Prim.Native.Nat.{ℕ, ◌≤◌, ◌<◌}
use native.Mathlib.Omega.{arith}
use lib.ListN.{length, get_or, take}
use lib.Dec.{ltb}
use borrow.Author.Tests.{leb-true, ltb-true}
use Rattle.base.specs.Pick.{pick}
use Rattle.packet.specs.FirstByte.{first_byte}
use Rattle.packet.specs.Header.{Header, read_headers}
use Rattle.packet.specs.HeaderList.{is_read, readable_from}
use Rattle.packet.specs.Packet.{Request, prefix_of, request_with, request_by, request_of}
use Rattle.packet.specs.declared.opcode.Opcode.{Opcode}
use Rattle.packet.specs.declared.opcode.FirstByte.{FirstByte}
use Rattle.std.specs.Prelude.{Option as Maybe, Some, None}
use Rattle.journal.specs.Journal.{list_of}
use Rattle.incoming.specs.Frame.{Frames, frames}
use Rattle.incoming.specs.declared.frame.Frame.TheVariants.{More, Whole, Short}
use Rattle.incoming.specs.declared.frame.Framed.{Framed}
use Rattle.connection.specs.Peer.{ids_of, left_peer}
use Rattle.connection.specs.Pieces.{headers_from}
use Rattle.filing.specs.Kinds.{ids_in}
use Rattle.journal_code.specs.declared.state.State.{State}
use Rattle.journal_code.specs.declared.heading.Heading.{Heading}
use Rattle.std.specs.Prelude.{Some, None}
use Rattle.journal_code.specs.State.{quiet, ended_with, coming_to, standing_by, fits_in}
use Rattle.journal_code.specs.Heading.{heading_of, reading_of}
use Rattle.journal_code.specs.Route.{heading_route}
use Rattle.journal_code.specs.Receive.{unreadable_state, Step, step, act_step, request_step, packet_step, came, came_by, frame_step}
use Rattle.journal_code.specs.Answer.{tabled, linked_in, Remaining, remaining, closed_all, closes_to}
use Rattle.journal_code.proofs.Closes.{no_id, some-ids}

-- ---- bounds

both : (a b : Bool) → (a && b) ≡ true → (a ≡ true) × (b ≡ true)
both true true e = (refl, refl)
both true false e = absurd (false≢true e)
both false b e = absurd (false≢true e)

pub record Fits (s : State) (p h b t : ℕ) : Type 0 where
  pub packet : 65535 ≤ p
  pub headers : 65535 ≤ h
  pub body : s.settings.limit ≤ b
  pub tables : 320 ≤ t
  pub count : s.peer.count ≤ 64
  pub kept : s.gathered.kept ≤ 65535
  pub within : s.gathered.body ≤ s.settings.limit
  pub begun : s.begun < 65535

pub fits : (s : State) (p h b t : ℕ) → fits_in s p h b t ≡ true → Fits s p h b t
unfolding fits_in
fits s p h b t e =
    let e1 = both _ _ e in
    let e2 = both _ _ e1.1 in
    let e3 = both _ _ e2.1 in
    let e4 = both _ _ e3.1 in
    let e5 = both _ _ e4.1 in
    let e6 = both _ _ e5.1 in
    let e7 = both _ _ e6.1 in
    record {
      packet = leb-true _ _ e1.0;
      headers = leb-true _ _ e2.0;
      body = leb-true _ _ e3.0;
      tables = leb-true _ _ e4.0;
      count = leb-true _ _ e5.0;
      kept = leb-true _ _ e6.0;
      within = leb-true _ _ e7.0;
      begun = ltb-true _ _ e7.1;
    }

pub linked : (n t : ℕ) → linked_in n t ≡ true → (n ≤ 64) × (320 ≤ t)
unfolding linked_in
linked n t e = let w = both _ _ e in (leb-true _ _ w.0, leb-true _ _ w.1)

-- ---- a packet

request-headers : (p : List ℕ) (r : Request) → request_of p ≡ some r → read_headers p (prefix_of r.opcode) ≡ some r.headers
unfolding request_of
request-headers p r e = go (first_byte (get_or p 0 0)) e
  where
    read : (o : Opcode) (f : Bool) (hs : Option (List Header)) → read_headers p (prefix_of o) ≡ hs → request_with o f p hs ≡ some r
        → read_headers p (prefix_of r.opcode) ≡ some r.headers
    read o f none q e = absurd (let z : ◌≡◌ {A = ℕ} 0 1 = cc in omega arith)
    read o f (some hs) q e =
        let k : record { opcode = o; final = f; bytes = p; headers = hs } ≡ r = cc in
        subst (λ (y : Request). read_headers p (prefix_of y.opcode) ≡ some y.headers) k q

    by : (b : Bool) (o : Opcode) (f : Bool) → pick b none (request_with o f p (read_headers p (prefix_of o))) ≡ some r
        → read_headers p (prefix_of r.opcode) ≡ some r.headers
    by true o f e = absurd (let z : ◌≡◌ {A = ℕ} 0 1 = cc in omega arith)
    by false o f e = read o f (read_headers p (prefix_of o)) refl e

    go : (b : Maybe FirstByte) → request_by b p ≡ some r → read_headers p (prefix_of r.opcode) ≡ some r.headers
    go None e = absurd (let z : ◌≡◌ {A = ℕ} 0 1 = cc in omega arith)
    go (Some b) e = by (ltb (length p) (prefix_of b.opcode)) b.opcode b.is_final e

module _ (s : State) (p t hd bd : List ℕ) where
  abbrev ids : List ℕ
  ids = ids_of s.peer t

  pub unread : reading_of (request_of p) ids t ≡ None → step (unreadable_state s) hd bd ≡ packet_step s p t hd bd
  unfolding packet_step
  unread e = go (request_of p) e
    where
      go : (r : Option Request) → reading_of r ids t ≡ None → step (unreadable_state s) hd bd ≡ request_step r s t hd bd
      go none e = refl
      go (some r) e = absurd (let z : ◌≡◌ {A = ℕ} 0 1 = cc in omega arith)

  module _ (h : Heading) (e : reading_of (request_of p) ids t ≡ Some h) where
    -- the heading is that of a request
    record Found : Type 0 where
      request : Request
      is : request_of p ≡ some request
      heading : heading_of request ids t ≡ h

    found : Found
    found = go (request_of p) refl e
      where
        go : (q : Option Request) → request_of p ≡ q → reading_of q ids t ≡ Some h → Found
        go none i e = absurd (let z : ◌≡◌ {A = ℕ} 0 1 = cc in omega arith)
        go (some r) i e = record { request = r; is = i; heading = cc }

    there : read_headers p h.headers ≡ some found.request.headers
    there =
        subst (λ (y : Heading). read_headers p y.headers ≡ some found.request.headers) found.heading
        (request-headers p found.request found.is)

    pub readable : readable_from p h.headers ≡ true
    readable = ap (λ (y : Option (List Header)). is_read y) there

    pub acted : act_step (heading_route s h) s h (headers_from p h.headers) hd bd ≡ packet_step s p t hd bd
    unfolding packet_step
    acted =
        ap (λ (y : Option (List Header)). act_step (heading_route s h) s h (list_of y) hd bd) there
        ∙ ap (λ (y : Heading). act_step (heading_route s y) s y found.request.headers hd bd) (sym found.heading)
        ∙ sym (ap (λ (y : Option Request). request_step y s t hd bd) found.is)

-- ---- bytes

module _ (s : State) (t hd bd : List ℕ) (r : Framed) (p : List ℕ) (f : Frames) (e : frames r p ≡ f) where
  pub goes_on : r.frame ≡ More → came (coming_to s r.begun) p hd bd ≡ frame_step f.result.frame f s t hd bd
  goes_on q = subst (λ (y : Frames). came (coming_to s r.begun) p hd bd ≡ frame_step y.result.frame y s t hd bd) e (rw q refl)

  pub too_short : r.frame ≡ Short → came (ended_with s 3) p hd bd ≡ frame_step f.result.frame f s t hd bd
  too_short q = subst (λ (y : Frames). came (ended_with s 3) p hd bd ≡ frame_step y.result.frame y s t hd bd) e (rw q refl)

  pub is_whole : r.frame ≡ Whole → (y : State) (h b : List ℕ) → step y h b ≡ packet_step s (take r.begun p) t hd bd
      → came y p h b ≡ frame_step f.result.frame f s t hd bd
  is_whole q y h b i =
      subst (λ (z : Frames). came y p h b ≡ frame_step z.result.frame z s t hd bd) e
      (ap (λ (z : Step). came_by z p) i ∙ rw q refl)

-- ---- ids that are closed

module _ (s : State) (l : List ℕ) (n : ℕ) (t : List ℕ) where
  pub closes-none : length l < 4 → tabled (quiet s) t ≡ closes_to (ids_in l) s (closed_all (ids_in l) n t)
  unfolding closed_all
  closes-none h = sym (ap (λ (y : List ℕ). closes_to y s (closed_all y n t)) (no_id l h))

  pub closes-some : 4 ≤ length l → (m : ℕ) (u : List ℕ) → remaining m u ≡ closed_all (ids_in l) n t
      → tabled (standing_by s (left_peer s.peer m)) u ≡ closes_to (ids_in l) s (closed_all (ids_in l) n t)
  closes-some h m u e = go (ids_in l) (some-ids l h) e
    where
      go : (y : List ℕ) {a : ℕ} {b : List ℕ} → y ≡ a ∷ b → remaining m u ≡ closed_all y n t
          → tabled (standing_by s (left_peer s.peer m)) u ≡ closes_to y s (closed_all y n t)
      go [] q e = absurd (let z : ◌≡◌ {A = ℕ} 0 1 = cc in omega arith)
      go (c ∷ d) q e = ap (λ (z : Remaining). closes_to (c ∷ d) s z) e
