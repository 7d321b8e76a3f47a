-- The client's response by its place in a Connect packet. Assumes nothing.
use mathlib.Core.Path.{◌≡◌, refl, sym, ap, subst, ◌∙◌}
use Rattle.packet.specs.declared.auth.DigestResponse.{DigestResponse}
use mathlib.Core.List.{List, [], ◌∷◌}
use mathlib.Core.Bool.{Bool, true, false, ◌&&◌, true≢false}
use mathlib.Core.Option.{Option, none, some}
use Prim.Native.Nat.{ℕ, ◌+◌, ◌^◌, ◌<◌}
use native.Mathlib.Omega.{arith}
use lib.ListN.{length}
use denote.Enum.Declared.{tag_of}
use types.Run.{OneOf, miss}
use Rattle.std.specs.Prelude.{Option as Maybe, Some, None}
use Rattle.digest.specs.declared.md5.Octets16.{Octets16}
use Rattle.packet.specs.Header.{read_headers, first_place, part}
use Rattle.packet.specs.Packet.{request_of}
use Rattle.packet.specs.Tags.{last_value, bytes_at}
use Rattle.packet.specs.Auth.{Response, response_of}
use Rattle.packet.specs.AuthRead.{response_read, read_response}
use Rattle.packet.proofs.HeaderLaws.{first-agrees}
use Rattle.packet.proofs.AuthLaws.{within}
use Rattle.packet.proofs.TagWrites.{Within}
use Rattle.journal.specs.Journal.{headers_of as headersIn}
use Rattle.model.specs.Request.{user_in, placed_at}
use Rattle.connection.specs.declared.peer.Peer.{Peer}
use Rattle.server.specs.declared.Engine.{Engine}
use Rattle.server.specs.declared.Operation.TheVariants.{Nothing}
use Rattle.server.specs.declared.Await.TheVariants as await
use Rattle.server.specs.declared.HostRequest.TheVariants as request
use Rattle.base.specs.Pick.{pick}
use Rattle.base.specs.Place.{Place, span}
use Rattle.connection.specs.Peer.{checked_peer, Challenge}
use Rattle.engine.specs.Step.{asks_plan, fields_plan}
use Rattle.engine.specs.Connect.{answered_read, answered_as, answered_by, asked, verifies_by, question_of, question_plan, verifies_plan, carries, stops_by, limited_plan, Below}
use Rattle.engine.specs.declared.connect.Answered.{Answered}
use Rattle.engine.specs.contracts.connect.Answered.{the_type}
use Rattle.engine.specs.declared.connect.Answered.TheVariants.{Missing, Unreadable, User}

-- what is read, by cases
unread : (x : Option Response) (u w : Place) → response_read x u ≡ None → answered_read x w ≡ Unreadable
unread none u w h = refl
unread (some r) u w h = absurd (let z : ◌≡◌ {A = ℕ} 0 1 = cc in omega arith)

the-user : (p r : DigestResponse) → ◌≡◌ {A = Maybe DigestResponse} (Some p) (Some r) → p.user ≡ r.user
the-user p r h = let k : p ≡ r = cc in ap (λ (x : DigestResponse). x.user) k

read : (x : Option Response) (u : Place) (d : DigestResponse) (a : ℕ) → response_read x u ≡ Some d
    → answered_read x (placed_at a u) ≡ User (placed_at a d.user)
read none u d a h = absurd (let z : ◌≡◌ {A = ℕ} 0 1 = cc in omega arith)
read (some r) u d a h = ap (λ (f : Place). User (placed_at a f)) (the-user _ d h)

-- a place in a part of the packet, moved on
pub below : (s : List ℕ) (n : ℕ) (f : Place) → Within s f → n + length s < 2 ^ 64 → Below n f
below s n None w h = tt
below s n (Some p) w h = (w.0, omega (arith, w.1))

-- the user id's place stays in the packet
pub user-below : (s : List ℕ) (n : ℕ) (d : DigestResponse) → read_response s ≡ Some d → n + length s < 2 ^ 64 → Below n d.user
unfolding read_response
user-below s n d h = go (response_of s) h
  where
    go : (x : Option Response) → response_read x (last_value s 1) ≡ Some d → n + length s < 2 ^ 64 → Below n d.user
    go none w l = absurd (let z : ◌≡◌ {A = ℕ} 0 1 = cc in omega arith)
    go (some r) w l = subst (Below n) (the-user _ d w) (below s n (last_value s 1) (within s 1) l)

module _ (q : List ℕ) (k : read_headers q 7 ≡ some (headersIn (request_of q))) where
  by_place : (f : Place) → first_place 0x4E q 7 ≡ f → answered_by q ≡ answered_as (bytes_at q f) (user_in q f)
  by_place f h = rw (← first-agrees 0x4E q 7 (headersIn (request_of q)) k, h)

  pub not-answered : first_place 0x4E q 7 ≡ None → Missing ≡ answered_by q
  not-answered h = sym (by_place None h)

  pub answer-unread : (a b : ℕ) → first_place 0x4E q 7 ≡ span a b → read_response (part q a b) ≡ None → Unreadable ≡ answered_by q
  unfolding read_response
  answer-unread a b h r = sym (by_place (span a b) h ∙ unread (response_of (part q a b)) _ _ r)

  pub answer-read : (a b : ℕ) (d : DigestResponse) → first_place 0x4E q 7 ≡ span a b
      → read_response (part q a b) ≡ Some d → User (placed_at a d.user) ≡ answered_by q
  unfolding read_response
  answer-read a b d h r = sym (by_place (span a b) h ∙ read (response_of (part q a b)) _ d a r)

-- a response that is not missing is carried, and one that cannot be read leads to a challenge as none does
pub is_carried : (a : Answered) → OneOf (1 ∷ 2 ∷ []) (tag_of the_type a) → carries a ≡ true
is_carried Missing k = absurd (miss (1 ∷ 2 ∷ []) 0 tt k)
is_carried Unreadable k = refl
is_carried (User u) k = refl

pub not-read : (c : Challenge) (a : Answered) → OneOf (0 ∷ 1 ∷ []) (tag_of the_type a) → verifies_by c a ≡ asked await.Nonce request.Nonce
not-read None a k = refl
not-read (Some n) Missing k = refl
not-read (Some n) Unreadable k = refl
not-read (Some n) (User u) k = absurd (miss (0 ∷ 1 ∷ []) 2 tt k)

-- a Connect that is not stopped leads to the question
pub not_stopped : (e : Engine) (p : Peer) (a : Answered) → (e.settings.authentication && stops_by p.window a) ≡ false
    → question_plan e p (question_of e.settings.authentication p.challenge a e.length) ≡ limited_plan e p a
unfolding limited_plan
not_stopped e p a = go e.settings.authentication (stops_by p.window a)
  where
    go : (t u : Bool) → (t && u) ≡ false
        → question_plan e p (question_of t p.challenge a e.length)
        ≡ pick t (pick u (fields_plan e (checked_peer p false) 0x53) (verifies_plan e p p.challenge a))
        (asks_plan e p Nothing await.Connect (request.Connect e.length))
    go true true k = absurd (true≢false k)
    go true false k = refl
    go false u k = refl

-- and one that is stopped to the reply
pub is_stopped_lem : (e : Engine) (p : Peer) (a : Answered) → (e.settings.authentication && stops_by p.window a) ≡ true
    → fields_plan e (checked_peer p false) 0x53 ≡ limited_plan e p a
unfolding limited_plan
is_stopped_lem e p a = go e.settings.authentication (stops_by p.window a)
  where
    go : (t u : Bool) → (t && u) ≡ true
        → fields_plan e (checked_peer p false) 0x53
        ≡ pick t (pick u (fields_plan e (checked_peer p false) 0x53) (verifies_plan e p p.challenge a))
        (asks_plan e p Nothing await.Connect (request.Connect e.length))
    go true true k = refl
    go true false k = absurd (true≢false (sym k))
    go false u k = absurd (true≢false (sym k))
