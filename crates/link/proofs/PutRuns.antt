-- A Put for every run from a link in which nothing is open: each move leads from one phase to the next, or to the end; and at every moment before
-- the final packet is sent an Abort goes. Assumes nothing.
use mathlib.Core.Path.{◌≡◌, refl, sym, ap, subst, subst₂, ◌∙◌}
use mathlib.Core.List.{List, [], ◌∷◌, ◌++◌, append_assoc}
use mathlib.Core.Bool.{Bool, true, false, ◌||◌, true≢false, false≢true}
use mathlib.Core.Option.{none}
use Prim.Native.Nat.{ℕ, ◌≤◌}
use native.Mathlib.Omega.{arith}
use lib.ListN.{length, length-append}
use Rattle.packet.specs.Header.{Header}
use Rattle.journal.specs.Calls.{Call, bytes_offered_of, stream_ended_of, reply_taken_of, reply_given_of, object_given_of, body_given_of, body_failed_of, abort_acknowledged_of, password_given_of, nonce_given_of, credentials_given_of, connections_closed_of}
use Rattle.server.specs.declared.Await.{Await as ServerAwait}
use Rattle.server.specs.declared.Await.TheVariants as waits
use Rattle.server.specs.declared.CallKind.TheVariants as kind
use Rattle.server.specs.declared.Outcome.TheVariants as told
use Rattle.incoming.proofs.Queued.{Half}
use Rattle.model.specs.Guard.{fits}
use Rattle.model.specs.Runs.{State}
use Rattle.model.proofs.Fit.{or_left, or_right}
use Rattle.client_model.specs.Numbers.{same_await}
use Rattle.client_model.specs.declared.Await.{Await}
use Rattle.client_model.specs.declared.Await.TheVariants as await
use Rattle.client_model.specs.declared.Client.{Client}
use Rattle.client_model.specs.declared.Outcome.TheVariants as said
use Rattle.link.specs.Link.{Link, link_with, UserCall, abort, Move, user, host, sendUp, sendDown, offerUp, offerDown, closeUp, closeDown, move, moves}
use Rattle.link.specs.Told as shown
use Rattle.link.specs.Told.{is_over, aborted_in}
use Rattle.link.specs.Claims.{PlainCall, PlainMove, Plain, Until}
use Rattle.link.proofs.Moves.{Heard, heard_after, heard_in, or_false, Quiet, quiet-host, host_fits, quiet-offer_up, quiet-offer-down, quiet-none_up, quiet-none-down, is_send, quiet_send_up, is_reply, quiet_send_down, is_end, quiet_close_up, has_ended, quiet_close_down, quiet-end-refused}
use Rattle.link.proofs.Joint.{Deal, box_of, Reason, by_abort, turned_away_lem, too_long, too_many, Mode, sends, reads, aborts, aborted, awaits, Stands, Post, wires, heads, AllGood, Order, HoldsIn, Under, Server, Gathers, goes_on, refuses, answers, Means, IsFinal, Left, nothing_left, record-left, Client', Joint, going, at_host, at_abort, replied, coming, ended, Finished, Unchanged, Rests, Next, goes, over}
use Rattle.link.proofs.ClientCalls.{heard_of, Did, still, went, Flag, stayed, flagged, due-user, aborted-user, user-did, send_up_did, abort_goes}
use Rattle.link.proofs.ClientMoves.{Listening, to_put, to_abort, listening, listens_bytes, offer-down, see_end}
use Rattle.link.proofs.ServerMoves.{client-packet, under_more, good-append, heads-append, offer_up, send_down, reply-given, acknowledge}

-- ---- moves that change nothing

quietly : (g : Deal) (ab : Bool) (h : Heard) (l : Link) (m : Move) → Quiet l m → shown.aborts l m ≡ false → Joint g ab h l
    → Next g (ab || shown.aborts l m) (heard_after h l m) (move l m)
quietly g ab h l m q n now =
    subst (λ (t : Bool). Next g t (heard_after h l m) (move l m)) (sym (ap (λ (x : Bool). ab || x) n ∙ or_false ab))
    (goes (subst₂ (λ (x : Heard) (y : Link). Joint g ab x y) (sym (q.heard h)) (sym q.still) now))

-- the host's answers, where the server awaits none
pub data Silent : ServerAwait → Type 0 where
  at_bytes' : Silent waits.Bytes
  at_taken : Silent waits.Taken
  at_nothing : Silent waits.Nothing

pub none-fits : (a : ServerAwait) (c : Call) → Silent a → host_fits a c ≡ false
none-fits a (bytes_offered_of i) w = refl
none-fits a stream_ended_of w = refl
none-fits a reply_taken_of w = refl
none-fits a (connections_closed_of l) w = refl
none-fits a (reply_given_of code hs) at_bytes' = refl
none-fits a (reply_given_of code hs) at_taken = refl
none-fits a (reply_given_of code hs) at_nothing = refl
none-fits a (object_given_of hs b) at_bytes' = refl
none-fits a (object_given_of hs b) at_taken = refl
none-fits a (object_given_of hs b) at_nothing = refl
none-fits a (body_given_of d) at_bytes' = refl
none-fits a (body_given_of d) at_taken = refl
none-fits a (body_given_of d) at_nothing = refl
none-fits a body_failed_of at_bytes' = refl
none-fits a body_failed_of at_taken = refl
none-fits a body_failed_of at_nothing = refl
none-fits a abort_acknowledged_of at_bytes' = refl
none-fits a abort_acknowledged_of at_taken = refl
none-fits a abort_acknowledged_of at_nothing = refl
none-fits a (password_given_of p) at_bytes' = refl
none-fits a (password_given_of p) at_taken = refl
none-fits a (password_given_of p) at_nothing = refl
none-fits a (nonce_given_of n realm) at_bytes' = refl
none-fits a (nonce_given_of n realm) at_taken = refl
none-fits a (nonce_given_of n realm) at_nothing = refl
none-fits a (credentials_given_of c) at_bytes' = refl
none-fits a (credentials_given_of c) at_taken = refl
none-fits a (credentials_given_of c) at_nothing = refl

no_answer : (l : Link) (a : ServerAwait) (c : Call) → l.server.engine.awaits ≡ a → Silent a → Quiet l (host c)
no_answer l a c e w = quiet-host l c (ap (λ (x : ServerAwait). host_fits x c) e ∙ none-fits a c w)

-- ---- what the client says, by its mode

module _ (g : Deal) (srm : Bool) (sent : List (List ℕ)) (ab : Bool) (h : Heard) (l : Link) where
  -- the operation goes on
  still-going : (mode : Mode) → Client' g mode srm sent ab h l → (is_over l.said ≡ false) × (is_end l.said ≡ false)
  still-going sends w = (ap is_over w.waits.said, ap is_end w.waits.said)
  still-going reads w = (ap is_over w.asks.said, ap is_end w.asks.said)
  still-going (awaits last initial) w = (ap is_over w.said, ap is_end w.said)
  still-going aborts w = (ap is_over w.said, ap is_end w.said)
  still-going aborted w = (ap is_over w.said, ap is_end w.said)

  -- nothing to offer to it
  quiet-down : (mode : Mode) → Client' g mode srm sent ab h l → l.down ≡ [] → (n : ℕ) → Quiet l (offerDown n)
  quiet-down sends w d n = quiet-offer-down l n (ap (λ (x : Await). same_await x await.Bytes) w.waits.awaits)
  quiet-down reads w d n = quiet-offer-down l n (ap (λ (x : Await). same_await x await.Bytes) w.asks.awaits)
  quiet-down (awaits last initial) w d n = quiet-none-down l n w.said d
  quiet-down aborts w d n = quiet-offer-down l n (ap (λ (x : Await). same_await x await.Bytes) w.awaits)
  quiet-down aborted w d n = quiet-none-down l n w.said d

  -- its stores have room
  packet-room : (mode : Mode) → Client' g mode srm sent ab h l → 65535 ≤ length l.stores.packet
  packet-room sends w = client-packet l.stores w.keeps.room
  packet-room reads w = client-packet l.stores w.keeps.room
  packet-room (awaits last initial) w = client-packet l.stores w.keeps.room
  packet-room aborts w = client-packet l.stores w.keeps.room
  packet-room aborted w = client-packet l.stores w.keeps.room

  -- the server's end comes to it, or at a wrong moment
  data Sees (mode : Mode) : Type 0 where
    sees : Listening mode → Sees mode
    not-now : (same_await l.client.awaits await.Bytes || same_await l.client.awaits await.Call) ≡ false → Sees mode

  sees_end : (mode : Mode) → Client' g mode srm sent ab h l → Sees mode
  sees_end sends w = not-now (ap (λ (x : Await). same_await x await.Bytes || same_await x await.Call) w.waits.awaits)
  sees_end reads w = not-now (ap (λ (x : Await). same_await x await.Bytes || same_await x await.Call) w.asks.awaits)
  sees_end (awaits last initial) w = sees (to_put last initial)
  sees_end aborts w = not-now (ap (λ (x : Await). same_await x await.Bytes || same_await x await.Call) w.awaits)
  sees_end aborted w = sees to_abort

-- ---- once the user has aborted, or has given more

reason_more : (g : Deal) (ab ab' : Bool) (d x : List ℕ) → (ab ≡ true → ab' ≡ true) → Reason g ab d → Reason g ab' (d ++ x)
reason_more g ab ab' d x f (by_abort e) = by_abort (f e)
reason_more g ab ab' d x f (turned_away_lem e) = turned_away_lem e
reason_more g ab ab' d x f (too_long n) = too_long (omega (arith, n, length-append d x))
reason_more g ab ab' d x f (too_many n) = too_many n

means-flag : (mode : Mode) (g : Deal) (xs : List (List Header)) (code : ℕ) (hs : List Header) (s : State) (ab : Bool) (h : Heard)
    → Means mode g xs code hs s ab h
    → Means mode g xs code hs s true h
means-flag sends g xs code hs s ab h m = m
means-flag reads g xs code hs s ab h m = m
means-flag aborts g xs code hs s ab h m = m
means-flag aborted g xs code hs s ab h m = m
means-flag (awaits last initial) g xs code hs s ab h (goes_on f c granted q ga hr ha) = goes_on f c granted q ga hr ha
means-flag (awaits last initial) g xs code hs s ab h (refuses w i hr ha why) = refuses w i hr ha (by_abort refl)
means-flag (awaits last initial) g xs code hs s ab h (answers f i hr ok n gave) = answers f i hr ok n gave

or_true : (a b c : Bool) → (a || b) ≡ c → a ≡ true → c ≡ true
or_true true b c e i = sym e
or_true false b c e i = absurd (false≢true i)

-- a move has led there
led : (g : Deal) (ab ab' : Bool) (h h' : Heard) (l l' : Link) (m : Move) → move l m ≡ l' → heard_after h l m ≡ h' → (ab || shown.aborts l m) ≡ ab'
    → Joint g ab' h' l'
    → Next g (ab || shown.aborts l m) (heard_after h l m) (move l m)
led g ab ab' h h' l l' m e i n now =
    subst (λ (t : Bool). Next g t (heard_after h l m) (move l m)) (sym n)
    (goes (subst₂ (λ (x : Heard) (y : Link). Joint g ab' x y) (sym i) (sym e) now))

-- while a response is awaited, the user's calls change the client's flag at most
flag-next : (g : Deal) (mode : Mode) (srm : Bool) (sent : List (List ℕ)) (ab : Bool) (h : Heard) (l : Link) (m : Move)
    → Flag g mode srm sent ab h l m → Joint g ab h l
    → ((c : Client) → Stands g.job srm sent true h.given h.final c l.stores said.WantsBytes mode → c.begun ≡ l.client.begun
    → (IsFinal mode → ⊥)
    → Joint g true h (link_with c l.stores said.WantsBytes l.server l.told l.up l.down))
    → Next g (ab || shown.aborts l m) (heard_after h l m) (move l m)
flag-next g mode srm sent ab h l m (stayed q n) now f = quietly g ab h l m q n now
flag-next g mode srm sent ab h l m (flagged c e i n w b fin) now f =
    led g ab true h h l (link_with c l.stores said.WantsBytes l.server l.told l.up l.down) m e i n (f c w b fin)

user-flag : (g : Deal) (mode : Mode) (srm : Bool) (sent : List (List ℕ)) (ab : Bool) (h : Heard) (l : Link) (u : UserCall) → Listening mode
    → Client' g mode srm sent ab h l
    → Flag g mode srm sent ab h l (user u)
user-flag g mode srm sent ab h l u (to_put last initial) w = due-user g srm sent ab h l last initial w u
user-flag g mode srm sent ab h l u to_abort w = aborted-user g srm sent ab h l w u

-- ---- a move in each phase

abbrev After : Deal → Bool → Heard → Link → Move → Type 0
After g ab h l m = Next g (ab || shown.aborts l m) (heard_after h l m) (move l m)

-- the server reads
going-move : (g : Deal) (ab : Bool) (h : Heard) (l : Link) (mode : Mode) (srm : Bool) (sent : List (List ℕ)) (xs : List (List Header))
    (ps : List Post)
    → Client' g mode srm sent ab h l → l.client.begun ≡ 0 → HoldsIn mode sent (xs ++ heads ps) → AllGood g.job ps → Order mode srm ps
    → Server g l.server → l.server.engine.awaits ≡ waits.Bytes → l.told ≡ told.WantsBytes → Gathers g srm l.server xs
    → Under ps l.server.stores.packet l.up l.server.engine.begun → l.down ≡ [] → h.records ≡ [] → h.answer ≡ none → (m : Move)
    → After g ab h l m
going-move g ab h l mode srm sent xs ps w b hold good order v a t ga under dn hr ha m = by m
  where
    now : Joint g ab h l
    now = going mode srm sent xs ps w b hold good order v a t ga under dn hr ha

    did : (m : Move) → Did g mode srm sent ab h l m → After g ab h l m
    did m (still q n) = quietly g ab h l m q n now
    did m (went mode' sent' ab' c s o x f qs e i n w' z goods holds orders fin) =
        led g ab ab' h (heard_of h (h.given ++ x) f) l (link_with c s o l.server l.told (l.up ++ wires qs) l.down) m e i n
        (going mode' srm sent' xs (ps ++ qs) w' (z ∙ b)
        (subst (HoldsIn mode' sent') (append_assoc xs (heads ps) (heads qs) ∙ ap (λ (y : List (List Header)). xs ++ y) (sym (heads-append ps qs)))
        (holds (xs ++ heads ps) hold))
        (good-append g.job ps qs good goods) (orders ps order) v a t ga
        (under_more g.job ps qs l.server.stores.packet l.up l.server.engine.begun under goods v.serves.base.room.packet) dn hr
        ha)

    -- bytes of what is under way
    up : (n : ℕ) (ps : List Post) → HoldsIn mode sent (xs ++ heads ps) → AllGood g.job ps → Order mode srm ps
        → Under ps l.server.stores.packet l.up l.server.engine.begun → After g ab h l (offerUp n)
    up n [] hold good order under = quietly g ab h l (offerUp n) (quiet-none_up l n t under.0) refl now
    up n (p ∷ ps) hold good order under =
        subst (λ (x : Bool). Next g x (heard_after h l (offerUp n)) (move l (offerUp n))) (sym (or_false ab))
        (goes (offer_up g ab h l mode srm sent xs w b v a ga dn hr ha p ps good.0 good.1 hold order under.rest under.is under.half n))

    by : (m : Move) → After g ab h l m
    by (user u) = did (user u) (user-did g srm sent ab h l b mode w u)
    by (host c) = quietly g ab h l (host c) (no_answer l waits.Bytes c a at_bytes') refl now
    by sendUp = did sendUp (send_up_did g srm sent ab h l b mode w)
    by sendDown = quietly g ab h l sendDown (quiet_send_down l (ap is_reply t)) refl now
    by (offerUp n) = up n ps hold good order under
    by (offerDown n) = quietly g ab h l (offerDown n) (quiet-down g srm sent ab h l mode w dn n) refl now
    by closeUp = quietly g ab h l closeUp (quiet_close_up l (still-going g srm sent ab h l mode w).1) refl now
    by closeDown = quietly g ab h l closeDown (quiet_close_down l (ap has_ended t)) refl now

pub joint_move : (g : Deal) (ab : Bool) (h : Heard) (l : Link) → Joint g ab h l → (m : Move) → PlainMove m → After g ab h l m
joint_move g ab h l (going mode srm sent xs ps w b hold good order v a t ga under dn hr ha) m pl =
    going-move g ab h l mode srm sent xs ps w b hold good order v a t ga under dn hr ha m
joint_move g ab h l (at_host srm initial sent xs r w b hold v a t up dn hr ha gave) m pl = by m pl
  where
    now : Joint g ab h l
    now = at_host srm initial sent xs r w b hold v a t up dn hr ha gave

    waiting : (c : Call) → host_fits waits.Reply c ≡ false → After g ab h l (host c)
    waiting c e = quietly g ab h l (host c) (quiet-host l c (ap (λ (w : ServerAwait). host_fits w c) a ∙ e)) refl now

    answered : (c : Call) → PlainCall c → After g ab h l (host c)
    answered (reply_given_of code hs) pl =
        subst (λ (x : Bool). Next g x (heard_after h l (host (reply_given_of code hs))) (move l (host (reply_given_of code hs)))) (sym (or_false ab))
        (goes (reply-given g ab h l srm initial sent xs w b hold gave v a up dn hr ha code hs pl.0 pl.2 now))
    answered (bytes_offered_of i) pl = waiting (bytes_offered_of i) refl
    answered stream_ended_of pl = waiting stream_ended_of refl
    answered reply_taken_of pl = waiting reply_taken_of refl
    answered (connections_closed_of x) pl = waiting (connections_closed_of x) refl
    answered (object_given_of hs b) pl = waiting (object_given_of hs b) refl
    answered (body_given_of d) pl = waiting (body_given_of d) refl
    answered body_failed_of pl = waiting body_failed_of refl
    answered abort_acknowledged_of pl = waiting abort_acknowledged_of refl
    answered (password_given_of p) pl = waiting (password_given_of p) refl
    answered (nonce_given_of n realm) pl = waiting (nonce_given_of n realm) refl
    answered (credentials_given_of c) pl = waiting (credentials_given_of c) refl

    by : (m : Move) → PlainMove m → After g ab h l m
    by (user u) pl = flag-next g (awaits true initial) srm sent ab h l (user u) (due-user g srm sent ab h l true initial w u) now
        (λ c w z fin. absurd (fin refl))
    by (host c) pl = answered c pl
    by sendUp pl = quietly g ab h l sendUp (quiet_send_up l (ap is_send w.said)) refl now
    by sendDown pl = quietly g ab h l sendDown (quiet_send_down l (ap is_reply t)) refl now
    by (offerUp i) pl = quietly g ab h l (offerUp i) (quiet-offer_up l i (ap (λ (w : ServerAwait). fits kind.FromPeer w) a)) refl now
    by (offerDown i) pl = quietly g ab h l (offerDown i) (quiet-none-down l i w.said dn) refl now
    by closeUp pl = quietly g ab h l closeUp (quiet_close_up l (ap is_end w.said)) refl now
    by closeDown pl = quietly g ab h l closeDown (quiet_close_down l (ap has_ended t)) refl now
joint_move g ab h l (at_abort srm sent r w b v a t up dn hr ha) m pl = by m pl
  where
    now : Joint g ab h l
    now = at_abort srm sent r w b v a t up dn hr ha

    waiting : (c : Call) → host_fits waits.Acknowledgement c ≡ false → After g ab h l (host c)
    waiting c e = quietly g ab h l (host c) (quiet-host l c (ap (λ (w : ServerAwait). host_fits w c) a ∙ e)) refl now

    answered : (c : Call) → After g ab h l (host c)
    answered abort_acknowledged_of =
        subst (λ (x : Bool). Next g x (heard_after h l (host abort_acknowledged_of)) (move l (host abort_acknowledged_of))) (sym (or_false ab))
        (goes (acknowledge g ab h l srm sent w b v a up dn hr ha))
    answered (reply_given_of code hs) = waiting (reply_given_of code hs) refl
    answered (bytes_offered_of i) = waiting (bytes_offered_of i) refl
    answered stream_ended_of = waiting stream_ended_of refl
    answered reply_taken_of = waiting reply_taken_of refl
    answered (connections_closed_of x) = waiting (connections_closed_of x) refl
    answered (object_given_of hs b) = waiting (object_given_of hs b) refl
    answered (body_given_of d) = waiting (body_given_of d) refl
    answered body_failed_of = waiting body_failed_of refl
    answered (password_given_of p) = waiting (password_given_of p) refl
    answered (nonce_given_of n realm) = waiting (nonce_given_of n realm) refl
    answered (credentials_given_of c) = waiting (credentials_given_of c) refl

    by : (m : Move) → PlainMove m → After g ab h l m
    by (user u) pl =
        flag-next g aborted srm sent ab h l (user u) (aborted-user g srm sent ab h l w u) now
        (λ c w z fin. at_abort srm sent r w (z ∙ b) v a t up dn hr ha)
    by (host c) pl = answered c
    by sendUp pl = quietly g ab h l sendUp (quiet_send_up l (ap is_send w.said)) refl now
    by sendDown pl = quietly g ab h l sendDown (quiet_send_down l (ap is_reply t)) refl now
    by (offerUp i) pl = quietly g ab h l (offerUp i) (quiet-offer_up l i (ap (λ (w : ServerAwait). fits kind.FromPeer w) a)) refl now
    by (offerDown i) pl = quietly g ab h l (offerDown i) (quiet-none-down l i w.said dn) refl now
    by closeUp pl = quietly g ab h l closeUp (quiet_close_up l (ap is_end w.said)) refl now
    by closeDown pl = quietly g ab h l closeDown (quiet_close_down l (ap has_ended t)) refl now
joint_move g ab h l (replied mode srm sent xs y code w b hold y' mean v a z t r up dn) m pl = by m
  where
    now : Joint g ab h l
    now = replied mode srm sent xs y code w b hold y' mean v a z t r up dn

    here : Listening mode
    here = listening mode g xs code y'.headers l.server ab h mean

    heard : (l.client.awaits ≡ await.Bytes) × (l.said ≡ said.WantsBytes)
    heard = listens_bytes g srm sent ab h l mode here w

    by : (m : Move) → After g ab h l m
    by (user u) =
        flag-next g mode srm sent ab h l (user u) (user-flag g mode srm sent ab h l u here w) now
        (λ c w e fin. replied mode srm sent xs y code w (e ∙ b) hold y' (means-flag mode g xs code y'.headers l.server ab h mean) v a z t r up
        dn)
    by (host c) = quietly g ab h l (host c) (no_answer l waits.Taken c a at_taken) refl now
    by sendUp = quietly g ab h l sendUp (quiet_send_up l (ap is_send heard.1)) refl now
    by sendDown =
        subst (λ (x : Bool). Next g x (heard_after h l sendDown) (move l sendDown)) (sym (or_false ab))
        (goes (send_down g ab h l mode srm sent xs y code w b (packet-room g srm sent ab h l mode w) hold y' mean v a t r up dn))
    by (offerUp i) = quietly g ab h l (offerUp i) (quiet-offer_up l i (ap (λ (w : ServerAwait). fits kind.FromPeer w) a)) refl now
    by (offerDown i) = quietly g ab h l (offerDown i) (quiet-none-down l i heard.1 dn) refl now
    by closeUp = quietly g ab h l closeUp (quiet_close_up l (ap is_end heard.1)) refl now
    by closeDown = quietly g ab h l closeDown (quiet_close_down l (ap has_ended t)) refl now
joint_move g ab h l (coming mode srm sent xs y code w hold y' mean v a z t up half hl) m pl = by m
  where
    now : Joint g ab h l
    now = coming mode srm sent xs y code w hold y' mean v a z t up half hl

    here : Listening mode
    here = listening mode g xs code y'.headers l.server ab h mean

    heard : (l.client.awaits ≡ await.Bytes) × (l.said ≡ said.WantsBytes)
    heard = listens_bytes g srm sent ab h l mode here w

    by : (m : Move) → After g ab h l m
    by (user u) =
        flag-next g mode srm sent ab h l (user u) (user-flag g mode srm sent ab h l u here w) now
        (λ c w e fin. coming mode srm sent xs y code w hold y' (means-flag mode g xs code y'.headers l.server ab h mean) v a z t up
        (subst (λ (n : ℕ). Half y l.stores.packet l.down n) (sym e) half) hl)
    by (host c) = quietly g ab h l (host c) (no_answer l waits.Bytes c a at_bytes') refl now
    by sendUp = quietly g ab h l sendUp (quiet_send_up l (ap is_send heard.1)) refl now
    by sendDown = quietly g ab h l sendDown (quiet_send_down l (ap is_reply t)) refl now
    by (offerUp i) = quietly g ab h l (offerUp i) (quiet-none_up l i t up) refl now
    by (offerDown i) =
        subst (λ (x : Bool). Next g x (heard_after h l (offerDown i)) (move l (offerDown i))) (sym (or_false ab))
        (offer-down g ab h l mode srm sent xs y code y' v a z t up hl w hold mean half i)
    by closeUp = quietly g ab h l closeUp (quiet_close_up l (ap is_end heard.1)) refl now
    by closeDown = quietly g ab h l closeDown (quiet_close_down l (ap has_ended t)) refl now
joint_move g ab h l (ended mode srm sent xs x w b hold same a t is dn left fails) m pl = by m
  where
    now : Joint g ab h l
    now = ended mode srm sent xs x w b hold same a t is dn left fails

    did : (m : Move) → Did g mode srm sent ab h l m → After g ab h l m
    did m (still q n) = quietly g ab h l m q n now
    did m (went mode' sent' ab' c s o d f qs e i n w' z goods holds orders fin) =
        led g ab ab' h (heard_of h (h.given ++ d) f) l (link_with c s o l.server l.told (l.up ++ wires qs) l.down) m e i n
        (ended mode' srm sent' (xs ++ heads qs) x w' (z ∙ b) (holds xs hold) same a t is dn (after left) fails)
      where
        after : Left g mode xs ab h → Left g mode' (xs ++ heads qs) ab' (heard_of h (h.given ++ d) f)
        after (nothing_left hr why) = nothing_left hr (reason_more g ab ab' h.given d (λ k. or_true ab (shown.aborts l m) ab' n k) why)
        after (record-left k hr gave) = absurd (fin k)

    close : Sees g srm sent ab h l mode → After g ab h l closeDown
    close (not-now e) = quietly g ab h l closeDown (quiet-end-refused l e) refl now
    close (sees k) =
        subst (λ (t : Bool). Next g t (heard_after h l closeDown) (move l closeDown)) (sym (or_false ab))
        (see_end g ab h l srm sent xs x b same t is dn fails mode k w hold left)

    by : (m : Move) → After g ab h l m
    by (user u) = did (user u) (user-did g srm sent ab h l b mode w u)
    by (host c) = quietly g ab h l (host c) (no_answer l waits.Nothing c a at_nothing) refl now
    by sendUp = did sendUp (send_up_did g srm sent ab h l b mode w)
    by sendDown = quietly g ab h l sendDown (quiet_send_down l (ap is_reply t)) refl now
    by (offerUp i) = quietly g ab h l (offerUp i) (quiet-offer_up l i (ap (λ (w : ServerAwait). fits kind.FromPeer w) a)) refl now
    by (offerDown i) = quietly g ab h l (offerDown i) (quiet-down g srm sent ab h l mode w dn i) refl now
    by closeUp = quietly g ab h l closeUp (quiet_close_up l (still-going g srm sent ab h l mode w).1) refl now
    by closeDown = close (sees_end g srm sent ab h l mode w)

-- ---- a run

-- while it goes on, nothing is over
joint_going : (g : Deal) (ab : Bool) (h : Heard) (l : Link) → Joint g ab h l → is_over l.said ≡ false
joint_going g ab h l (going mode srm sent xs ps w b hold good order v a t ga under dn hr ha) = (still-going g srm sent ab h l mode w).0
joint_going g ab h l (at_host srm initial sent xs r w b hold v a t up dn hr ha gave) = ap is_over w.said
joint_going g ab h l (at_abort srm sent r w b v a t up dn hr ha) = ap is_over w.said
joint_going g ab h l (replied mode srm sent xs y code w b hold y' mean v a z t r up dn) = (still-going g srm sent ab h l mode w).0
joint_going g ab h l (coming mode srm sent xs y code w hold y' mean v a z t up half hl) = (still-going g srm sent ab h l mode w).0
joint_going g ab h l (ended mode srm sent xs x w b hold same a t is dn left fails) = (still-going g srm sent ab h l mode w).0

or_assoc : (a b c : Bool) → ((a || b) || c) ≡ (a || (b || c))
or_assoc true b c = refl
or_assoc false b c = refl

-- what holds at the end
pub record Ran (g : Deal) (ab : Bool) (h : Heard) (l : Link) : Type 0 where
  pub finished : Finished g ab h l.said l.told
  pub rests : Rests (box_of g) l
  pub unchanged : Unchanged g l

pub joint_run : (g : Deal) (ab : Bool) (ms : List Move) (h : Heard) (l : Link) → Joint g ab h l → Plain ms → Until l ms
    → Ran g (ab || aborted_in l ms) (heard_in h l ms) (moves l ms)
joint_run g ab [] h l now pl un = absurd un
joint_run g ab (m ∷ []) h l now pl un = by (joint_move g ab h l now m pl.0)
  where
    by : After g ab h l m → Ran g (ab || (shown.aborts l m || false)) (heard_after h l m) (move l m)
    by (goes w) = absurd (true≢false (sym un ∙ joint_going g (ab || shown.aborts l m) (heard_after h l m) (move l m) w))
    by (over w r u) =
        subst (λ (t : Bool). Ran g t (heard_after h l m) (move l m)) (ap (λ (t : Bool). ab || t) (sym (or_false (shown.aborts l m))))
        (record { finished = w; rests = r; unchanged = u })
joint_run g ab (m ∷ (k ∷ ms)) h l now pl un =
    by (joint_move g ab h l now m pl.0) (λ w. joint_run g (ab || shown.aborts l m) (k ∷ ms) (heard_after h l m) (move l m) w pl.1 un.1)
  where
    by : After g ab h l m
        → (Joint g (ab || shown.aborts l m) (heard_after h l m) (move l m)
        → Ran g ((ab || shown.aborts l m) || aborted_in (move l m) (k ∷ ms)) (heard_in (heard_after h l m) (move l m) (k ∷ ms))
        (moves (move l m) (k ∷ ms)))
        → Ran g (ab || (shown.aborts l m || aborted_in (move l m) (k ∷ ms))) (heard_in (heard_after h l m) (move l m) (k ∷ ms))
        (moves (move l m) (k ∷ ms))
    by (goes w) rest =
        subst (λ (t : Bool). Ran g t (heard_in (heard_after h l m) (move l m) (k ∷ ms)) (moves (move l m) (k ∷ ms)))
        (or_assoc ab (shown.aborts l m) (aborted_in (move l m) (k ∷ ms))) (rest w)
    by (over w r u) rest = absurd (true≢false (sym w.is_over_lem ∙ un.0))

-- ---- an Abort before the final packet

joint_abort : (g : Deal) (ab : Bool) (h : Heard) (l : Link) → Joint g ab h l → ab ≡ false → h.final ≡ false → shown.goes l abort ≡ true
joint_abort g ab h l (going mode srm sent xs ps w b hold good order v a t ga under dn hr ha) n f = abort_goes g srm sent ab h l n f mode w
joint_abort g ab h l (at_host srm initial sent xs r w b hold v a t up dn hr ha gave) n f = abort_goes g srm sent ab h l n f (awaits true initial) w
joint_abort g ab h l (at_abort srm sent r w b v a t up dn hr ha) n f = abort_goes g srm sent ab h l n f aborted w
joint_abort g ab h l (replied mode srm sent xs y code w b hold y' mean v a z t r up dn) n f = abort_goes g srm sent ab h l n f mode w
joint_abort g ab h l (coming mode srm sent xs y code w hold y' mean v a z t up half hl) n f = abort_goes g srm sent ab h l n f mode w
joint_abort g ab h l (ended mode srm sent xs x w b hold same a t is dn left fails) n f = abort_goes g srm sent ab h l n f mode w

or_no : (a b : Bool) → a ≡ false → b ≡ false → (a || b) ≡ false
or_no true b e f = e
or_no false b e f = f

-- at any moment of the run at which it is not over
pub joint_free : (g : Deal) (ab : Bool) (xs ys : List Move) (h : Heard) (l : Link) → Joint g ab h l → ab ≡ false → Plain (xs ++ ys)
    → Until l (xs ++ ys)
    → is_over (moves l xs).said ≡ false → aborted_in l xs ≡ false → (heard_in h l xs).final ≡ false → shown.goes (moves l xs) abort ≡ true
joint_free g ab [] ys h l now z pl un o n f = joint_abort g ab h l now z f
joint_free g ab (m ∷ xs) ys h l now z pl un o n f =
    by (joint_move g ab h l now m pl.0) xs ys un o
    (λ w un'. joint_free g (ab || shown.aborts l m) xs ys (heard_after h l m) (move l m) w
    (or_no ab (shown.aborts l m) z (or_left (shown.aborts l m) (aborted_in (move l m) xs) n))
    pl.1 un' o (or_right (shown.aborts l m) (aborted_in (move l m) xs) n) f)
  where
    by : After g ab h l m → (xs ys : List Move) → Until l (m ∷ (xs ++ ys)) → is_over (moves (move l m) xs).said ≡ false
        → (Joint g (ab || shown.aborts l m) (heard_after h l m) (move l m) → Until (move l m) (xs ++ ys)
        → shown.goes (moves (move l m) xs) abort ≡ true)
        → shown.goes (moves (move l m) xs) abort ≡ true
    by (goes w) [] [] un o rest = absurd (true≢false (sym un ∙ o))
    by (goes w) [] (k ∷ ys) un o rest = rest w un.1
    by (goes w) (k ∷ xs) ys un o rest = rest w un.1
    by (over w r u) [] ys un o rest = absurd (true≢false (sym w.is_over_lem ∙ o))
    by (over w r u) (k ∷ xs) ys un o rest = absurd (true≢false (sym w.is_over_lem ∙ un.0))

-- ---- the phase at any moment of the run at which it is not over

-- what is heard, and whether the user has aborted, up to there
pub record Then (g : Deal) (l : Link) : Type 0 where
  pub ab : Bool
  pub heard : Heard
  pub joint : Joint g ab heard l

pub joint_then : (g : Deal) (ab : Bool) (xs ys : List Move) (h : Heard) (l : Link) → Joint g ab h l → Plain (xs ++ ys) → Until l (xs ++ ys)
    → is_over (moves l xs).said ≡ false → Then g (moves l xs)
joint_then g ab [] ys h l now pl un o = record { ab = ab; heard = h; joint = now }
joint_then g ab (m ∷ xs) ys h l now pl un o =
    by (joint_move g ab h l now m pl.0) xs ys un o
    (λ w un'. joint_then g (ab || shown.aborts l m) xs ys (heard_after h l m) (move l m) w pl.1 un' o)
  where
    by : After g ab h l m → (xs ys : List Move) → Until l (m ∷ (xs ++ ys)) → is_over (moves (move l m) xs).said ≡ false
        → (Joint g (ab || shown.aborts l m) (heard_after h l m) (move l m) → Until (move l m) (xs ++ ys) → Then g (moves (move l m) xs))
        → Then g (moves (move l m) xs)
    by (goes w) [] [] un o rest = absurd (true≢false (sym un ∙ o))
    by (goes w) [] (k ∷ ys) un o rest = rest w un.1
    by (goes w) (k ∷ xs) ys un o rest = rest w un.1
    by (over w r u) [] ys un o rest = absurd (true≢false (sym w.is_over_lem ∙ o))
    by (over w r u) (k ∷ xs) ys un o rest = absurd (true≢false (sym w.is_over_lem ∙ un.0))
