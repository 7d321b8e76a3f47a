-- A Connect and a Disconnect, move by move: in each phase the moves that lead on do so, and every other move changes nothing. Assumes nothing.
use mathlib.Core.Path.{◌≡◌, refl, sym, ap, subst, subst₂, ◌∙◌}
use mathlib.Core.List.{List, []}
use mathlib.Core.Bool.{Bool, true, false, ◌&&◌, not, true≢false}
use mathlib.Core.Option.{Option, none}
use Prim.Native.Nat.{ℕ, ◌≤◌}
use lib.ListN.{length, take}
use Rattle.std.specs.Prelude.{None}
use Rattle.base.specs.Pick.{pick}
use Rattle.text.specs.Unicode.{Octets}
use Rattle.packet.specs.Codes.{codes, is_code}
use Rattle.packet.specs.ResponsePacket.{ResponsePacket, response_packet}
use Rattle.journal.specs.Calls.{Call, bytes_offered_of, stream_ended_of, reply_taken_of, reply_given_of, object_given_of, body_given_of, body_failed_of, abort_acknowledged_of, password_given_of, nonce_given_of, credentials_given_of, connections_closed_of}
use Rattle.incoming.proofs.Queued.{Half}
use Rattle.connection.specs.Peer.{ConnectionId}
use Rattle.server.specs.declared.Await.{Await as ServerAwait}
use Rattle.server.specs.declared.Await.TheVariants as waits
use Rattle.server.specs.declared.CallKind.TheVariants as kind
use Rattle.server.specs.declared.Outcome.{Outcome as ServerOutcome}
use Rattle.server.specs.declared.Outcome.TheVariants as told
use Rattle.model.specs.Dispatch.{busy}
use Rattle.model.specs.Guard.{fits}
use Rattle.client_model.specs.Numbers.{same_await}
use Rattle.client_model.specs.Guard.{awaiting, may_abort}
use Rattle.client_model.specs.Answer.{is_connecting}
use Rattle.client_model.specs.declared.Settings.{Settings}
use Rattle.client_model.specs.declared.Await.{Await}
use Rattle.client_model.specs.declared.Await.TheVariants as await
use Rattle.client_model.specs.declared.Operation.{Operation}
use Rattle.client_model.specs.declared.Outcome.TheVariants as said
use Rattle.link.specs.Link.{Link, UserCall, connect, get, disconnect, put, body, abort, partTaken, Move, user, host, sendUp, sendDown, offerUp, offerDown, closeUp, closeDown, reply_bytes, move}
use Rattle.link.specs.Told.{succeeded}
use Rattle.link.specs.Claims.{PlainCall, PlainMove, named_in, named_by}
use Rattle.link.proofs.Moves.{Quiet, user-refused, quiet-user, quiet-host, host_fits, quiet-offer_up, quiet-offer-down, quiet-none_up, quiet-none-down, is_send, quiet_send_up, is_reply, quiet_send_down, is_end, quiet_close_up, has_ended, quiet_close_down}
use Rattle.link.proofs.Joint.{Serves}
use Rattle.link.proofs.ConnectJoint.{Kind, connecting, disconnecting, operation_of, held_id, Past, named_past, limit_for, Settled, Follows, host_connect, host-password, host-nonce, host-credentials, Asked, Packs, Awaits, NamesNow, Bound, Phase, turn, under_way, at_host, replied, coming, ended, Next, goes}
use Rattle.link.proofs.ConnectReplies.{octets-none}
use Rattle.link.proofs.ConnectMoves.{send_up, offer_connect, offer_disconnect}
use Rattle.link.proofs.ConnectAnswers.{connect_answered, disconnect_answered}
use Rattle.link.proofs.ConnectEnds.{send_down, offer-down, see_end}

-- ---- the ConnectionID that the server gave stays

-- a reply that is none names none
none_read : response_packet true [] ≡ none
unfolding response_packet is_code codes
none_read = refl

pub silent-named : (i : ConnectionId) (l : Link) → is_reply l.told ≡ false → named_by i l sendDown ≡ i
silent-named i l e =
    ap (λ (q : List ℕ). pick (is_connecting l.client.operation) (named_in (response_packet true q) i) i) (no_bytes l.told e)
    ∙ ap (λ (r : Option ResponsePacket). pick (is_connecting l.client.operation) (named_in r i) i) none_read
    ∙ both (is_connecting l.client.operation)
  where
    no_bytes : (o : ServerOutcome) → is_reply o ≡ false → reply_bytes o l.server.stores.reply ≡ []
    no_bytes (told.Reply n) e = absurd (true≢false e)
    no_bytes told.WantsBytes e = refl
    no_bytes (told.Request r) e = refl
    no_bytes (told.End x) e = refl
    no_bytes (told.Refused r) e = refl

    both : (b : Bool) → pick b i i ≡ i
    both true = refl
    both false = refl

pub user-named : (i : ConnectionId) (l : Link) (u : UserCall) → awaiting l.client await.Call ≡ false → named_by i l (user u) ≡ i
user-named i l (connect hs) e = refl
user-named i l (get hs) e = refl
user-named i l (disconnect hs) e = ap (λ (b : Bool). pick b None i) (user-refused l (disconnect hs) e)
user-named i l (put hs has) e = refl
user-named i l (body d) e = refl
user-named i l abort e = refl
user-named i l partTaken e = refl

-- ---- moves that change nothing

module _ (k : Kind) (cs : Settings) (g : Past) (l : Link) (now : Phase k cs g l) where
  quietly : (m : Move) → Quiet l m → named_by g.named l m ≡ g.named → Next k cs (named_past g l m) (move l m)
  quietly m q e =
      goes (subst₂ (λ (i : ConnectionId) (x : Link). Phase k cs (record { connected = g.connected; named = i }) x) (sym e)
      (sym q.still) now)

-- the user's calls, while the client awaits bytes or the word that its packet was sent
kind-stays : (k : Kind) (a : Await) → may_abort (operation_of k) a ≡ false
kind-stays connecting a = refl
kind-stays disconnecting a = refl

and_false : (b : Bool) → (b && false) ≡ false
and_false true = refl
and_false false = refl

user-quiet : (k : Kind) (l : Link) (u : UserCall) → l.client.operation ≡ operation_of k → awaiting l.client await.Call ≡ false
    → awaiting l.client await.Body ≡ false → awaiting l.client await.Taken ≡ false → Quiet l (user u)
user-quiet k l (connect hs) o a b t = quiet-user l (connect hs) a
user-quiet k l (get hs) o a b t = quiet-user l (get hs) a
user-quiet k l (disconnect hs) o a b t = quiet-user l (disconnect hs) a
user-quiet k l (put hs has) o a b t = quiet-user l (put hs has) a
user-quiet k l (body d) o a b t = quiet-user l (body d) b
user-quiet k l abort o a b t =
    quiet-user l abort
    (ap (λ (x : Operation). not l.client.aborting && may_abort x l.client.awaits) o
    ∙ ap (λ (x : Bool). not l.client.aborting && x) (kind-stays k l.client.awaits) ∙ and_false (not l.client.aborting))
user-quiet k l partTaken o a b t = quiet-user l partTaken t

-- the host's answers, where the server awaits none
data Silent : ServerAwait → Type 0 where
  at_bytes : Silent waits.Bytes
  at_taken : Silent waits.Taken
  at_nothing : Silent waits.Nothing

none-fits : (a : ServerAwait) (c : Call) → Silent a → host_fits a c ≡ false
none-fits a (bytes_offered_of i) w = refl
none-fits a stream_ended_of w = refl
none-fits a reply_taken_of w = refl
none-fits a (connections_closed_of l) w = refl
none-fits a (reply_given_of code hs) at_bytes = refl
none-fits a (reply_given_of code hs) at_taken = refl
none-fits a (reply_given_of code hs) at_nothing = refl
none-fits a (object_given_of hs b) at_bytes = refl
none-fits a (object_given_of hs b) at_taken = refl
none-fits a (object_given_of hs b) at_nothing = refl
none-fits a (body_given_of d) at_bytes = refl
none-fits a (body_given_of d) at_taken = refl
none-fits a (body_given_of d) at_nothing = refl
none-fits a body_failed_of at_bytes = refl
none-fits a body_failed_of at_taken = refl
none-fits a body_failed_of at_nothing = refl
none-fits a abort_acknowledged_of at_bytes = refl
none-fits a abort_acknowledged_of at_taken = refl
none-fits a abort_acknowledged_of at_nothing = refl
none-fits a (password_given_of p) at_bytes = refl
none-fits a (password_given_of p) at_taken = refl
none-fits a (password_given_of p) at_nothing = refl
none-fits a (nonce_given_of n realm) at_bytes = refl
none-fits a (nonce_given_of n realm) at_taken = refl
none-fits a (nonce_given_of n realm) at_nothing = refl
none-fits a (credentials_given_of c) at_bytes = refl
none-fits a (credentials_given_of c) at_taken = refl
none-fits a (credentials_given_of c) at_nothing = refl

pub host-quiet : (l : Link) (c : Call) → l.server.engine.awaits ≡ waits.Bytes → Quiet l (host c)
host-quiet l c e = quiet-host l c (ap (λ (x : ServerAwait). host_fits x c) e ∙ none-fits waits.Bytes c at_bytes)

silent-host : (l : Link) (a : ServerAwait) (c : Call) → l.server.engine.awaits ≡ a → Silent a → Quiet l (host c)
silent-host l a c e w = quiet-host l c (ap (λ (x : ServerAwait). host_fits x c) e ∙ none-fits a c w)

-- ---- a move in each phase

-- a user's call while a response is due
waiting-user : (k : Kind) (cs : Settings) (g : Past) (l : Link) → Phase k cs g l → Awaits k cs l → (u : UserCall)
    → Next k cs (named_past g l (user u)) (move l (user u))
waiting-user k cs g l now w u =
    let c = ap (λ (x : Await). same_await x await.Call) w.awaits in
    quietly k cs g l now (user u)
    (user-quiet k l u w.calls.operation c (ap (λ (x : Await). same_await x await.Body) w.awaits)
    (ap (λ (x : Await). same_await x await.Taken) w.awaits))
    (user-named g.named l u c)

pub connect_move : (k : Kind) (cs : Settings) → cs.max_packet_length ≤ 65535 → (g : Past) (l : Link) → Phase k cs g l
    → (m : Move) → PlainMove m
    → Next k cs (named_past g l m) (move l m)
connect_move k cs small g l (turn q c p a o t r b dn f n bd) m pl = by m pl
  where
    now : Phase k cs g l
    now = turn q c p a o t r b dn f n bd

    call : awaiting l.client await.Call ≡ false
    call = ap (λ (x : Await). same_await x await.Call) a

    by : (m : Move) → PlainMove m → Next k cs (named_past g l m) (move l m)
    by (user u) pl =
        quietly k cs g l now (user u)
        (user-quiet k l u c.operation call (ap (λ (x : Await). same_await x await.Body) a) (ap (λ (x : Await). same_await x await.Taken) a))
        (user-named g.named l u call)
    by (host x) pl = quietly k cs g l now (host x) (silent-host l waits.Bytes x r.awaits at_bytes) refl
    by sendUp pl = goes (send_up k cs g l q c p a o t r b dn f n bd)
    by sendDown pl = quietly k cs g l now sendDown (quiet_send_down l (ap is_reply r.told)) (silent-named g.named l (ap is_reply r.told))
    by (offerUp i) pl = quietly k cs g l now (offerUp i) (quiet-none_up l i r.told r.up) refl
    by (offerDown i) pl = quietly k cs g l now (offerDown i) (quiet-offer-down l i (ap (λ (x : Await). same_await x await.Bytes) a)) refl
    by closeUp pl = quietly k cs g l now closeUp (quiet_close_up l (ap is_end o)) refl
    by closeDown pl = quietly k cs g l now closeDown (quiet_close_down l (ap has_ended r.told)) refl
connect_move k cs small g l (under_way q w p b v a t i half dn f n bd oct) m pl = by m pl
  where
    now : Phase k cs g l
    now = under_way q w p b v a t i half dn f n bd oct

    offer : (j : ℕ) → Phase k cs g (move l (offerUp j))
    offer = offers_up k cs small g l q w p b v a i dn f n bd half oct
      where
        offers_up : (k : Kind) (cs : Settings) → cs.max_packet_length ≤ 65535 → (g : Past) (l : Link) (q : List ℕ) → Awaits k cs l
            → Packs k cs q
            → l.client.begun ≡ 0 → Serves (limit_for l.server) l.server → l.server.engine.awaits ≡ waits.Bytes
            → busy l.server.engine.operation ≡ false → l.down ≡ []
            → Follows (held_id k l.client.connection_id) l.server
            → NamesNow k g.named l.client.connection_id
            → Bound k cs g.connected (limit_for l.server)
            → Half q l.server.stores.packet l.up l.server.engine.begun → Octets l.up
            → (j : ℕ) → Phase k cs g (move l (offerUp j))
        offers_up connecting cs small g l q w p b v a i dn f n bd half oct j = offer_connect cs small g l q w p b v a i dn f n bd half oct
            j
        offers_up disconnecting cs small g l q w p b v a i dn f n bd half oct j = offer_disconnect cs small g l q w p b v a i dn f n bd
            half oct j

    by : (m : Move) → PlainMove m → Next k cs (named_past g l m) (move l m)
    by (user u) pl = waiting-user k cs g l now w u
    by (host x) pl = quietly k cs g l now (host x) (silent-host l waits.Bytes x a at_bytes) refl
    by sendUp pl = quietly k cs g l now sendUp (quiet_send_up l (ap is_send w.said)) refl
    by sendDown pl = quietly k cs g l now sendDown (quiet_send_down l (ap is_reply t)) (silent-named g.named l (ap is_reply t))
    by (offerUp j) pl = goes (offer j)
    by (offerDown j) pl = quietly k cs g l now (offerDown j) (quiet-none-down l j w.said dn) refl
    by closeUp pl = quietly k cs g l now closeUp (quiet_close_up l (ap is_end w.said)) refl
    by closeDown pl = quietly k cs g l now closeDown (quiet_close_down l (ap has_ended t)) refl
connect_move k cs small g l (at_host r w b v t up dn q f st n bd) m pl = by m pl
  where
    now : Phase k cs g l
    now = at_host r w b v t up dn q f st n bd

    answers : (x : Call) → PlainCall x → Phase k cs g (move l (host x))
    answers = host-answers k cs g l w b v up dn f st n bd now q
      where
        host-answers : (k : Kind) (cs : Settings) (g : Past) (l : Link) → Awaits k cs l → l.client.begun ≡ 0
            → Serves (limit_for l.server) l.server → l.up ≡ [] → l.down ≡ []
            → Follows (held_id k l.client.connection_id) l.server
            → Settled k cs (limit_for l.server)
            → NamesNow k g.named l.client.connection_id
            → Bound k cs g.connected (limit_for l.server) → Phase k cs g l → Asked k l.server
            → (x : Call) → PlainCall x → Phase k cs g (move l (host x))
        host-answers connecting cs g l w b v up dn f st n bd now q x pl = connect_answered cs g l w b v up dn f st n bd now q x pl
        host-answers disconnecting cs g l w b v up dn f st n bd now q x pl = disconnect_answered cs g l w b v up dn f st n bd now q x pl

    asked-silent : (a : ServerAwait) → l.server.engine.awaits ≡ a → fits kind.FromPeer a ≡ false → (j : ℕ) → Quiet l (offerUp j)
    asked-silent a e i j = quiet-offer_up l j (ap (λ (x : ServerAwait). fits kind.FromPeer x) e ∙ i)

    closed : (j : ℕ) → Quiet l (offerUp j)
    closed = go k q
      where
        go : (k : Kind) → Asked k l.server → (j : ℕ) → Quiet l (offerUp j)
        go connecting (host_connect a o, z) = asked-silent waits.Connect a refl
        go connecting (host-password a o, z) = asked-silent waits.Password a refl
        go connecting (host-nonce a o, z) = asked-silent waits.Nonce a refl
        go connecting (host-credentials code h m a o i u, z) = asked-silent waits.Credentials a refl
        go disconnecting (a, o) = asked-silent waits.Disconnect a refl

    by : (m : Move) → PlainMove m → Next k cs (named_past g l m) (move l m)
    by (user u) pl = waiting-user k cs g l now w u
    by (host x) pl = goes (answers x pl)
    by sendUp pl = quietly k cs g l now sendUp (quiet_send_up l (ap is_send w.said)) refl
    by sendDown pl = quietly k cs g l now sendDown (quiet_send_down l (ap is_reply t)) (silent-named g.named l (ap is_reply t))
    by (offerUp j) pl = quietly k cs g l now (offerUp j) (closed j) refl
    by (offerDown j) pl = quietly k cs g l now (offerDown j) (quiet-none-down l j w.said dn) refl
    by closeUp pl = quietly k cs g l now closeUp (quiet_close_up l (ap is_end w.said)) refl
    by closeDown pl = quietly k cs g l now closeDown (quiet_close_down l (ap has_ended t)) refl
connect_move k cs small g l (replied y w b v a z i t r up dn p f st n bd) m pl = by m pl
  where
    now : Phase k cs g l
    now = replied y w b v a z i t r up dn p f st n bd

    by : (m : Move) → PlainMove m → Next k cs (named_past g l m) (move l m)
    by (user u) pl = waiting-user k cs g l now w u
    by (host x) pl = quietly k cs g l now (host x) (silent-host l waits.Taken x a at_taken) refl
    by sendUp pl = quietly k cs g l now sendUp (quiet_send_up l (ap is_send w.said)) refl
    by sendDown pl = goes (send_down k cs g l y w b v a i t r up dn p f st n bd)
    by (offerUp j) pl = quietly k cs g l now (offerUp j) (quiet-offer_up l j (ap (λ (x : ServerAwait). fits kind.FromPeer x) a)) refl
    by (offerDown j) pl = quietly k cs g l now (offerDown j) (quiet-none-down l j w.said dn) refl
    by closeUp pl = quietly k cs g l now closeUp (quiet_close_up l (ap is_end w.said)) refl
    by closeDown pl = quietly k cs g l now closeDown (quiet_close_down l (ap has_ended t)) refl
connect_move k cs small g l (coming y w r i half p f st n bd) m pl = by m pl
  where
    now : Phase k cs g l
    now = coming y w r i half p f st n bd

    by : (m : Move) → PlainMove m → Next k cs (named_past g l m) (move l m)
    by (user u) pl = waiting-user k cs g l now w u
    by (host x) pl = quietly k cs g l now (host x) (silent-host l waits.Bytes x r.awaits at_bytes) refl
    by sendUp pl = quietly k cs g l now sendUp (quiet_send_up l (ap is_send w.said)) refl
    by sendDown pl = quietly k cs g l now sendDown (quiet_send_down l (ap is_reply r.told)) (silent-named g.named l (ap is_reply r.told))
    by (offerUp j) pl = quietly k cs g l now (offerUp j) (quiet-none_up l j r.told r.up) refl
    by (offerDown j) pl = offer-down k cs g l y w r i p f st n bd half j
    by closeUp pl = quietly k cs g l now closeUp (quiet_close_up l (ap is_end w.said)) refl
    by closeDown pl = quietly k cs g l now closeDown (quiet_close_down l (ap has_ended r.told)) refl
connect_move k cs small g l (ended x w b a t up dn) m pl = by m pl
  where
    now : Phase k cs g l
    now = ended x w b a t up dn

    by : (m : Move) → PlainMove m → Next k cs (named_past g l m) (move l m)
    by (user u) pl = waiting-user k cs g l now w u
    by (host c) pl = quietly k cs g l now (host c) (silent-host l waits.Nothing c a at_nothing) refl
    by sendUp pl = quietly k cs g l now sendUp (quiet_send_up l (ap is_send w.said)) refl
    by sendDown pl = quietly k cs g l now sendDown (quiet_send_down l (ap is_reply t)) (silent-named g.named l (ap is_reply t))
    by (offerUp j) pl = quietly k cs g l now (offerUp j) (quiet-offer_up l j (ap (λ (y : ServerAwait). fits kind.FromPeer y) a)) refl
    by (offerDown j) pl = quietly k cs g l now (offerDown j) (quiet-none-down l j w.said dn) refl
    by closeUp pl = quietly k cs g l now closeUp (quiet_close_up l (ap is_end w.said)) refl
    by closeDown pl = see_end k cs g l x w t dn

-- ---- what a phase tells

-- while it goes on, no call of an operation is awaited, and nothing is said of success
pub record Goes (k : Kind) (l : Link) : Type 0 where
  pub awaits : awaiting l.client await.Call ≡ false
  pub operation : l.client.operation ≡ operation_of k
  pub said : succeeded l.said ≡ false
  pub octets : Octets l.up

waiting-goes : (k : Kind) (cs : Settings) (l : Link) → Awaits k cs l → Octets l.up → Goes k l
waiting-goes k cs l w o =
    record {
      awaits = ap (λ (x : Await). same_await x await.Call) w.awaits;
      operation = w.calls.operation;
      said = ap succeeded
          w.said;
      octets = o;
    }

none-octets : (u : List ℕ) → u ≡ [] → Octets u
none-octets u e = subst Octets (sym e) octets-none

pub phase_goes : (k : Kind) (cs : Settings) (g : Past) (l : Link) → Phase k cs g l → Goes k l
phase_goes k cs g l (turn q c p a o t r b dn f n bd) =
    record {
      awaits = ap (λ (x : Await). same_await x await.Call) a;
      operation = c.operation;
      said = ap succeeded o;
      octets = none-octets l.up
          r.up;
    }
phase_goes k cs g l (under_way q w p b v a t i half dn f n bd oct) = waiting-goes k cs l w oct
phase_goes k cs g l (at_host r w b v t up dn q f st n bd) = waiting-goes k cs l w (none-octets l.up up)
phase_goes k cs g l (replied y w b v a z i t r up dn p f st n bd) = waiting-goes k cs l w (none-octets l.up up)
phase_goes k cs g l (coming y w r i half p f st n bd) = waiting-goes k cs l w (none-octets l.up r.up)
phase_goes k cs g l (ended x w b a t up dn) = waiting-goes k cs l w (none-octets l.up up)

-- the packet that waits is of bytes
pub phase_octets : (k : Kind) (cs : Settings) (g : Past) (l : Link) → Phase k cs g l → (n : ℕ) → l.said ≡ said.Send n
    → Octets (take n l.stores.request)
phase_octets k cs g l (turn q c p a o t r b dn f n bd) m e =
    let i : length q ≡ m = same_size (length q) m (sym o ∙ e) in
    subst (λ (x : ℕ). Octets (take x l.stores.request)) i (subst Octets (sym t) p.octets)
  where
    same_size : (x y : ℕ) → said.Send x ≡ said.Send y → x ≡ y
    same_size x y e = cc
phase_octets k cs g l (under_way q w p b v a t i half dn f n bd oct) m e = absurd (true≢false (ap is_send (sym e ∙ w.said)))
phase_octets k cs g l (at_host r w b v t up dn q f st n bd) m e = absurd (true≢false (ap is_send (sym e ∙ w.said)))
phase_octets k cs g l (replied y w b v a z i t r up dn p f st n bd) m e = absurd (true≢false (ap is_send (sym e ∙ w.said)))
phase_octets k cs g l (coming y w r i half p f st n bd) m e = absurd (true≢false (ap is_send (sym e ∙ w.said)))
phase_octets k cs g l (ended x w b a t up dn) m e = absurd (true≢false (ap is_send (sym e ∙ w.said)))
