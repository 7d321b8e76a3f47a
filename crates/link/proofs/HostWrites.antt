-- What the server's host writes is not seen: a move depends on the server by its call alone, and a call comes to the same in two states that
-- differ in bytes that do not count (`front_is_all` of the model). Assumes nothing.
use mathlib.Core.Path.{◌≡◌, refl, sym, ap, ◌∙◌, subst}
use mathlib.Core.List.{List, [], ◌∷◌, ◌++◌}
use mathlib.Core.Option.{Option, none, some}
use Prim.Native.Nat.{ℕ}
use lib.ListN.{take, drop}
use Rattle.base.specs.Pick.{pick}
use Rattle.journal.specs.Calls.{Call, bytes_offered_of}
use Rattle.server.specs.declared.Engine.{Engine}
use Rattle.server.specs.declared.CallResult.{CallResult as ServerResult}
use Rattle.server.specs.declared.Outcome.{Outcome as ServerOutcome}
use Rattle.server.specs.declared.Outcome.TheVariants as told
use Rattle.model.specs.Step.{Stores as ServerStores}
use Rattle.model.specs.Calls.{with_packet}
use Rattle.model.specs.Runs.{State, writing, Writes}
use Rattle.model.specs.HostWrites.{counting, SameBut}
use Rattle.model.proofs.HostWrites.{front_is_all, writes-behind}
use Rattle.client_model.specs.Step.{Stores, Stepped}
use Rattle.client_model.specs.Calls.{request_sent_step, bytes_offered_step, stream_ended_step}
use Rattle.client_model.specs.declared.Client.{Client}
use Rattle.client_model.specs.declared.Outcome.{Outcome}
use Rattle.client_model.specs.declared.Outcome.TheVariants as said
use Rattle.link.specs.Link.{Link, link_with, UserCall, connect, get, disconnect, put, body, abort, partTaken, Move, user, host, sendUp, sendDown, offerUp, offerDown, closeUp, closeDown, told_after, client_did, user_step, is_answer, sends_down, reply_bytes, closes_up, call_after, up_after, close_after, move, moves}
use Rattle.link.specs.HostWrites.{WrittenMove, writing_at, move_written, moves_written, AllWrite, moves_alone, SameLink, WritesUnseen}

-- ---- states

-- one that is the same as one that is the same
same_on : (s u v : State) → SameBut s u → SameBut u v → SameBut s v
same_on s u v h k =
    record {
      engine = k.engine ∙ h.engine;
      tables = k.tables ∙ h.tables;
      stores = k.stores ∙ ap (λ (z : ServerStores). with_packet z v.stores.packet) h.stores;
      front =
          subst (λ (e : Engine). take (counting e) v.stores.packet ≡ take (counting e) u.stores.packet) h.engine k.front ∙ h.front;
      long = k.long ∙ h.long;
    }

-- ---- a move, in a link `l` and in one with the server `u`

module _ (l : Link) (u : State) (h : SameBut l.server u) where
  abbrev k : Link
  k = link_with l.client l.stores l.said u l.told l.up l.down

  rests : SameLink l k
  rests = record { client = refl; stores = refl; said = refl; server = h; told = refl; up = refl; down = refl }

  -- a call on the client
  client-same : (m : Stepped) (up down : List ℕ) → SameLink (client_did l m up down) (client_did k m up down)
  client-same m up down = record { client = refl; stores = refl; said = refl; server = h; told = refl; up = refl; down = refl }

  -- a call on the server, if there is one
  server-same : (c : Option Call) (down other : List ℕ) → other ≡ down → SameLink (call_after c l down) (call_after c k other)
  server-same none down other e = rests
  server-same (some c) down other e =
      let m = front_is_all l.server u h c in
      record {
        client = refl;
        stores = refl;
        said = refl;
        server = m.after;
        told = ap (λ (r : ServerResult). told_after l.told r.outcome) m.took;
        up = ap (λ (r : ServerResult). drop r.taken l.up) m.took;
        down = e;
      }

  user-same : (x : UserCall) → SameLink (client_did l (user_step l x) l.up l.down) (client_did k (user_step k x) l.up l.down)
  user-same (connect hs) = client-same (user_step l (connect hs)) l.up l.down
  user-same (get hs) = client-same (user_step l (get hs)) l.up l.down
  user-same (disconnect hs) = client-same (user_step l (disconnect hs)) l.up l.down
  user-same (put hs has) = client-same (user_step l (put hs has)) l.up l.down
  user-same (body d) = client-same (user_step l (body d)) l.up l.down
  user-same abort = client-same (user_step l abort) l.up l.down
  user-same partTaken = client-same (user_step l partTaken) l.up l.down

  sent-same : (o : Outcome) → SameLink (up_after o l) (up_after o k)
  sent-same (said.Send n) = client-same (request_sent_step l.client l.stores) (l.up ++ take n l.stores.request) l.down
  sent-same said.Ready = rests
  sent-same said.WantsBytes = rests
  sent-same (said.Read n) = rests
  sent-same (said.Part i b) = rests
  sent-same (said.Done c n) = rests
  sent-same (said.Stopped c n) = rests
  sent-same (said.Aborted c n) = rests
  sent-same (said.End x) = rests
  sent-same (said.Refused r) = rests

  closed_same : (t : ServerOutcome) (down : List ℕ) → SameLink (close_after t down l) (close_after t down k)
  closed_same (told.End x) [] = client-same (stream_ended_step l.client l.stores) l.up l.down
  closed_same (told.End x) (b ∷ down) = rests
  closed_same told.WantsBytes down = rests
  closed_same (told.Reply n) down = rests
  closed_same (told.Request r) down = rests
  closed_same (told.Refused r) down = rests

  -- the reply's bytes are the same
  reply-same : l.down ++ reply_bytes l.told u.stores.reply ≡ l.down ++ reply_bytes l.told l.server.stores.reply
  reply-same = ap (λ (z : ServerStores). l.down ++ reply_bytes l.told z.reply) h.stores

  server-moves : (m : Move) → SameLink (move l m) (move k m)
  unfolding move
  server-moves (user x) = user-same x
  server-moves (host c) = server-same (pick (is_answer c) (some c) none) l.down l.down refl
  server-moves sendUp = sent-same l.said
  server-moves sendDown = server-same (sends_down l.told) _ _ reply-same
  server-moves (offerUp n) = server-same (some (bytes_offered_of (take n l.up))) l.down l.down refl
  server-moves (offerDown n) =
      let m = bytes_offered_step l.client (take n l.down) l.stores in client-same m l.up (drop m.took.taken l.down)
  server-moves closeUp = server-same (closes_up l.said l.up) l.down l.down refl
  server-moves closeDown = closed_same l.told l.down

-- ---- links

-- such a link is the other with another server
other_is : (l k : Link) → SameLink l k → link_with l.client l.stores l.said k.server l.told l.up l.down ≡ k
other_is l k h =
    ap (λ (c : Client). link_with c l.stores l.said k.server l.told l.up l.down) (sym h.client)
    ∙ ap (λ (z : Stores). link_with k.client z l.said k.server l.told l.up l.down) (sym h.stores)
    ∙ ap (λ (o : Outcome). link_with k.client k.stores o k.server l.told l.up l.down) (sym h.said)
    ∙ ap (λ (t : ServerOutcome). link_with k.client k.stores k.said k.server t l.up l.down) (sym h.told)
    ∙ ap (λ (q : List ℕ). link_with k.client k.stores k.said k.server k.told q l.down) (sym h.up)
    ∙ ap (λ (q : List ℕ). link_with k.client k.stores k.said k.server k.told k.up q) (sym h.down)

pub same_move : (l k : Link) (m : Move) → SameLink l k → SameLink (move l m) (move k m)
same_move l k m h = subst (λ (j : Link). SameLink (move l m) (move j m)) (other_is l k h) (server-moves l k.server h.server m)

-- the host writes
pub same-written : (l k : Link) (w : List ℕ) → SameLink l k → Writes k.server w → SameLink l (writing_at k w)
same-written l k w h a =
    record {
      client = h.client;
      stores = h.stores;
      said = h.said;
      server = same_on l.server k.server (writing k.server w) h.server (writes-behind k.server w a);
      told = h.told;
      up = h.up;
      down = h.down;
    }

pub same-link : (l : Link) → SameLink l l
same-link l =
    record {
      client = refl;
      stores = refl;
      said = refl;
      server = record { engine = refl; tables = refl; stores = refl; front = refl; long = refl };
      told = refl;
      up = refl;
      down = refl;
    }

run-same : (xs : List WrittenMove) (l k : Link) → SameLink l k → AllWrite k xs → SameLink (moves l (moves_alone xs)) (moves_written k xs)
run-same [] l k h a = h
run-same (x ∷ xs) l k h a =
    run-same xs (move l x.move) (move_written k x)
    (same_move l (writing_at k x.written) x.move (same-written l k x.written h a.0)) a.1

pub writes_unseen : WritesUnseen
writes_unseen l xs a = run-same xs l l (same-link l) a
