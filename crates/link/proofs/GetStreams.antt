-- The request of a Get under Single Response Mode (SRM): its packets follow one another onto the stream, the user may abort in between, and the
-- server gathers one after the other without a word. What becomes of the link is left to the caller, as the server may have ended. Assumes nothing.
use mathlib.Core.Path.{◌≡◌, refl, sym, ap, subst₂, ◌∙◌}
use mathlib.Core.List.{List, [], ◌∷◌, ◌++◌}
use mathlib.Core.Bool.{true, false}
use Prim.Native.Nat.{ℕ}
use lib.ListN.{length, take}
use Rattle.client_model.specs.Step.{client_with, goes, Done, sends, Stepped, after}
use Rattle.client_model.specs.Numbers.{same_await}
use Rattle.client_model.specs.Request.{requests_next, sends_abort}
use Rattle.client_model.specs.Guard.{sound_operation, awaiting}
use Rattle.client_model.specs.Calls.{sent_for, request_sent_step}
use Rattle.client_model.specs.declared.Kind.TheVariants as kind
use Rattle.client_model.specs.declared.Operation.{Operation}
use Rattle.client_model.specs.declared.Operation.TheVariants.{Requesting, Aborting}
use Rattle.client_model.specs.declared.Await.{Await}
use Rattle.client_model.specs.declared.Await.TheVariants as await
use Rattle.client_model.specs.declared.Client.{Client}
use Rattle.client_model.specs.declared.Outcome.{Outcome}
use Rattle.client_model.specs.declared.Outcome.TheVariants as said
use Rattle.client_model.proofs.Putting.{counts-sound}
use Rattle.client_model.proofs.Getting.{Fetch, Stands, Waits, Leads, stands-sound, made_packet, sent_packet, sent-ends, sent-later, next-leads, abort_bytes}
use Rattle.link.specs.Link.{Link, link_with, user, sendUp, abort, said_after, client_did, up_after, move}
use Rattle.link.proofs.ClientMoves.{passes}
use Rattle.link.proofs.ServerMoves.{reply-front}
use Rattle.link.proofs.GetHeard.{GetHeard, get_heard_after, silent}
use Rattle.link.proofs.GetJoint.{Origin, requesting, aborting, Due, Busy, cancelling, GetJoint}
use Rattle.link.proofs.GetClientMoves.{sent_link, sent-link, sent-stands, sends-stands, abort_short, abort_move, abort_sends, abort_heard}

-- ---- a packet of the request goes onto the stream

module _ (j : Fetch) (o : Origin) (h : GetHeard) (l : Link) (sent : List (List ℕ)) (k : Stands j false l.client l.stores)
    (a : Waits j true sent l.client l.said l.stores) (ab : h.aborted ≡ false) where
  abbrev made : List ℕ
  made = made_packet j true sent l.client l.said l.stores a

  abbrev gone : List ℕ
  gone = sent_packet j true sent l.client l.said l.stores a

  abbrev waiting : Client
  waiting = goes l.client l.client.operation await.Bytes false

  -- it was the last
  pub send_last : a.last ≡ true
      → (Due (requesting true a.initial true) false j (sent ++ (made ∷ [])) h waiting l.stores said.WantsBytes → GetJoint j o h (sent_link l gone))
      → GetJoint j o (get_heard_after h l sendUp) (move l sendUp)
  unfolding client_with
  send_last e g =
      let p = a.made.packet in
      let op = Requesting kind.Get p.outgoing p.chunk true a.initial true in
      let i = a.operation ∙ ap (Requesting kind.Get p.outgoing p.chunk true a.initial) e in
      let w = counts-sound p.outgoing p.chunk a.counts in
      subst₂ (λ (x : GetHeard) (y : Link). GetJoint j o x y) (sym (silent h))
      (sym (sent-link j l op a.size gone k i w refl a.awaits a.said (ap (take a.size) a.request)))
      (g (record {
        stands = sent-stands j l op a.size gone k i w refl a.awaits a.said (ap (take a.size) a.request);
        answered = sent-ends j true sent l.client l.said l.stores a e;
        awaits = refl;
        said = refl;
        aborted = ab;
        only = tt;
      }))

  -- the next one follows at once
  pub send_more : a.last ≡ false
      → ((d : Done) → Leads j true (sent ++ (made ∷ [])) d
      → GetJoint j o h (link_with d.client d.stores d.outcome l.server l.told (l.up ++ gone) l.down))
      → GetJoint j o (get_heard_after h l sendUp) (move l sendUp)
  unfolding move request_sent_step
  send_more e g =
      let c = l.client in
      let s = l.stores in
      let p = a.made.packet in
      let d = requests_next c kind.Get true false p.outgoing s in
      let v = next-leads j true (sent ++ (made ∷ [])) false c s k (sent-later j true sent c l.said s a e) in
      let i : request_sent_step c s ≡ after 0 d =
      passes c s (awaiting c await.Sent) (after 0 (sent_for c.operation c s)) k.room
      (stands-sound j false c s k (ap sound_operation a.operation ∙ counts-sound p.outgoing p.chunk a.counts))
      (ap (λ (x : Await). same_await x await.Sent) a.awaits)
      ∙ ap (λ (x : Operation). after 0 (sent_for x c s)) (a.operation
      ∙ λ n. Requesting kind.Get p.outgoing p.chunk true (a.later refl n) (e n)) in
      let u : said_after l.said d.outcome ≡ d.outcome = ap (said_after l.said) v.waits.said ∙ sym v.waits.said in
      subst₂ (λ (x : GetHeard) (y : Link). GetJoint j o x y) (sym (silent h))
      (sym (ap (λ (x : Outcome). up_after x l) a.said ∙ ap (λ (m : Stepped). client_did l m (l.up ++ take a.size s.request) l.down) i
      ∙ ap (λ (x : Outcome). link_with d.client d.stores x l.server l.told (l.up ++ take a.size s.request) l.down) u
      ∙ ap (λ (x : List ℕ). link_with d.client d.stores d.outcome l.server l.told (l.up ++ take a.size x) l.down) a.request))
      (g d v)

  -- the user aborts: the Abort takes its place
  pub abort_stream : ((d : Done) → Busy j (abort_heard h) sent d.client d.stores d.outcome → d.client.begun ≡ 0
      → GetJoint j o (abort_heard h) (link_with d.client d.stores d.outcome l.server l.told l.up l.down))
      → GetJoint j o (get_heard_after h l (user abort)) (move l (user abort))
  unfolding client_with sends_abort
  abort_stream g =
      let c = l.client in
      let s = l.stores in
      let p = a.made.packet in
      let q = abort_bytes j.id in
      let d = sends c Aborting q s in
      abort_move j false l (Requesting kind.Get p.outgoing p.chunk true a.initial a.last) await.Sent k a.operation
      (counts-sound p.outgoing p.chunk a.counts) a.awaits refl d o h (abort_sends c s j.id k.id) refl
      (g d (cancelling (length q) (sends-stands j false c s Aborting q k (abort_short j.id)) refl refl refl (reply-front q s.request) refl) refl)

-- the Abort goes onto the stream
pub send_cancel : (j : Fetch) (o : Origin) (h : GetHeard) (l : Link) (sent : List (List ℕ)) (n : ℕ) → Stands j false l.client l.stores
    → l.client.operation ≡ Aborting → l.client.awaits ≡ await.Sent → l.said ≡ said.Send n → take n l.stores.request ≡ abort_bytes j.id
    → h.aborted ≡ true
    → (Due aborting true j sent h (goes l.client l.client.operation await.Bytes false) l.stores said.WantsBytes
    → GetJoint j o h (sent_link l (abort_bytes j.id)))
    → GetJoint j o (get_heard_after h l sendUp) (move l sendUp)
unfolding client_with
send_cancel j o h l sent n k p a e q ab g =
    let b = abort_bytes j.id in
    subst₂ (λ (x : GetHeard) (y : Link). GetJoint j o x y) (sym (silent h)) (sym (sent-link j l Aborting n b k p refl refl a e q))
    (g (record { stands = sent-stands j l Aborting n b k p refl refl a e q; answered = p; awaits = refl; said = refl; aborted = ab; only = refl }))
