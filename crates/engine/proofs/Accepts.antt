-- Replies, and the host's answer to a Connect: what the code does by the last packet and two stores is the model's step. Assumes nothing.
use mathlib.Core.Path.{◌≡◌, refl, sym, ap, ap₂, ◌∙◌}
use mathlib.Core.List.{List, [], ◌∷◌}
use mathlib.Core.Bool.{Bool, true, false, ◌&&◌, ◌||◌}
use mathlib.Core.Option.{Option, none, some}
use Prim.Native.Nat.{ℕ, ◌≤◌}
use denote.Enum.Declared.{tag_of}
use types.Run.{OneOf, miss}
use Rattle.std.specs.Prelude.{Some, None}
use Rattle.digest.specs.declared.md5.Octets16.{Octets16}
use borrow.Author.Tests.{leb-true}
use lib.ListN.{length, take}
use lib.Dec.{ltb}
use Rattle.base.specs.Pick.{pick}
use Rattle.std.specs.Prelude.{Option as Maybe, Some, None}
use Rattle.base.specs.Place.{Place}
use Rattle.packet.specs.Codes.{is_success}
use Rattle.packet.specs.Header.{Header, read_headers, first, first_place, all_bytes}
use Rattle.packet.specs.Auth.{Challenge as PeerChallenge}
use Rattle.packet.specs.AuthRead.{challenge_read}
use Rattle.packet.specs.AuthWrite.{given, overlong}
use Rattle.packet.specs.declared.auth.DigestChallenge.{DigestChallenge}
use Rattle.journal.specs.Calls.{Credentials}
use Rattle.incoming.specs.Survey.{survey_of}
use Rattle.connection.specs.Reply.{Sending as Sent, fields_of, send_bytes, sent_into, front}
use Rattle.connection.specs.declared.peer.Answer.{Answer}
use Rattle.connection.specs.Peer.{Linked, linked, id_in, target_asked, opened_for, opened_by as peerOpened, opening_of, front_by_of, Answers, answer_from, answer_by, disconnected_peer, disconnected_by, ConnectionId}
use Rattle.connection.specs.ConnectReply.{answered_challenge, connect_headers}
use Rattle.connection.specs.Pieces.{headers_from, realm_of, answered_in, id_given, credentials_of}
use Rattle.connection.specs.declared.peer.Peer.{Peer}
use Rattle.connection.proofs.ByNumbers.{opened_by_lem, disconnected_by_lem}
use Rattle.journal.specs.Journal.{list_of}
use Rattle.model.specs.Step.{Stores, Stepped, stepped, Called, called, DoneTabled, done_tabled, after, sends, sends_connect}
use Rattle.model.specs.Guard.{bad_reply, long_user, checked, sound_operation, same_await}
use Rattle.model.specs.Calls.{reply_given_step, credentials_with, credentials_given_step, sends_linked, reply_answer}
use Rattle.model.specs.Request.{last_packet, last_headers, realm_in}
use Rattle.model.specs.Connect.{srm_asked, connect_sends, front_for, connect_challenged, connect_opened, connect_answer}
use Rattle.engine.specs.Step.{asks_plan, Written, written, within, took_by, sent_plan, replies_by}
use Rattle.engine.specs.Guard.{refused_with}
use Rattle.engine.specs.Request.{last_from}
use Rattle.engine.specs.Connect.{Answering, answering, Accepting, accepting, among, leaving, headers_of, srm_asked_by, connect_replies, accepted_headers, answer_for, challenged_by, opened_in, accepted_by, replied_link, credentials_by}
use Rattle.server.specs.declared.Operation.{Operation}
use Rattle.server.specs.declared.Operation.TheVariants.{Nothing, Trailing, Putting, Getting, Sending, Gathering as GatheringOp, Connecting, Draining}
use Rattle.server.specs.declared.Await.TheVariants as await
use Rattle.server.specs.declared.CallKind.TheVariants as kind
use Rattle.server.specs.declared.Refusal.TheVariants as refusal
use Rattle.server.specs.declared.Engine.{Engine}
use Rattle.server.specs.declared.HostRequest.TheVariants as request
use Rattle.server.specs.declared.CallResult.{CallResult}
use Rattle.engine.specs.declared.step.Plan.{Plan}
use Rattle.engine.proofs.Carried.{took-sent, sent-written}
use Rattle.server.specs.contracts.Operation.{the_type}
use Rattle.model.proofs.FromHost.{reply-headers-fit}
use Rattle.engine.proofs.Guards.{Goes, GoesLent}
use Rattle.engine.proofs.LastPacket.{last-headers}

-- ---- the id in front

front_by : (p : Peer) (t : List ℕ) (v target : Option (List ℕ)) → front_by_of p t (id_in v) (target_asked target) ≡ front_for p t v target
front_by p t (some v) target = refl
front_by p t none none = refl
front_by p t none (some target) = refl

-- ---- what is left in the stores

-- an answer with the table store, among the stores
abbrev pub among_in : Accepting → Stores → Called
among_in a s = called (among a.answer s) a.tables

abbrev after_tabled : DoneTabled → Called
after_tabled d = called (after 0 d.done) d.tables

-- ---- what the functions of the code found

-- the peer and the table store when a reply is made
module _ (e : Engine) (q t : List ℕ) (m : Bool) (now : m ≡ same_await e.awaits await.Disconnect) where
  pub replied-closing : m ≡ true → (n : ℕ) (i : ConnectionId) (l : Linked) → n ≡ last_from q → i ≡ id_in (first 0xCB (headers_from q n))
      → l ≡ disconnected_by e.peer t i → l ≡ replied_link e q t
  unfolding replied_link
  replied-closing k n i l h c w =
      w
      ∙ ap (λ (i : ConnectionId). disconnected_by e.peer t i)
      (c ∙ ap (λ (n : ℕ). id_in (first 0xCB (headers_from q n))) h ∙ ap (λ (hs : List Header). id_in (first 0xCB hs)) (last-headers q))
      ∙ sym (disconnected_by_lem e.peer t (first 0xCB (headers_of q)))
      ∙ sym (simp (sym now ∙ k))

  pub replied-other : m ≡ false → linked e.peer t ≡ replied_link e q t
  unfolding replied_link
  replied-other k = sym (simp (sym now ∙ k))

-- the bytes of the reply to a Connect
module _ (e : Engine) (p : Peer) (code : ℕ) (f : ConnectionId) (q hs y : List ℕ) where
  abbrev made : Option Credentials → ℕ → List Header → Bool → Sent
  made c n r b =
      sent_into (send_bytes n code (fields_of e.settings.max_packet_length) (all_bytes (connect_headers (id_given f) r (headers_from hs 0) c b))) y

  pub accepted-sent : (c : Option Credentials) (n m : ℕ) (b : Bool) (z : Sent) (x : Plan) (r : CallResult)
      → z ≡ made c n (headers_from q m) b → n ≡ p.remote_max_packet_length → headers_from q m ≡ headers_from q (last_from q)
      → b ≡ srm_asked_by e q → x ≡ sent_plan e p z.answer → r ≡ took_by x
      → written r z.reply ≡ connect_replies e p code (accepted_headers e f q hs c) y
  unfolding accepted_headers
  accepted-sent c n m b z x r h i j k l t =
      sent-written e p code (fields_of e.settings.max_packet_length) (accepted_headers e f q hs c) y n z x r
      (h ∙ ap₂ (λ (r : List Header) (b : Bool). made c n r b) (j ∙ last-headers q) k) i l t

  pub not-challenged : (h : List ℕ) (w : Written) → None ≡ answered_in (headers_of q)
      → w ≡ connect_replies e p code (accepted_headers e f q hs none) y
      → leaving h w ≡ challenged_by (answered_in (headers_of q)) e p code f hs q h y
  not-challenged h w k i =
      ap (λ (w : Written). leaving h w) i ∙ ap (λ (d : Maybe DigestChallenge). challenged_by d e p code f hs q h y) k

  pub challenged : (h z : List ℕ) (c : DigestChallenge) (m : Place) (x : Plan) (t : CallResult)
      → Some c ≡ answered_in (headers_of q)
      → t ≡ took_by x → x ≡ asks_plan e p (Connecting code f (length hs)) await.Credentials (request.Credentials c.nonce c.user_id_required c.read_only m)
      → m ≡ realm_in q (first_place 0x4D q 7) → z ≡ front hs h
      → answering t z y ≡ challenged_by (answered_in (headers_of q)) e p code f hs q h y
  challenged h z c m x t k i j l o =
      ap₂ (λ (t : CallResult) (z : List ℕ). answering t z y)
      (i ∙ ap (λ (x : Plan). took_by x)
      (j ∙ ap (λ (m : Place). asks_plan e p (Connecting code f (length hs)) await.Credentials (request.Credentials c.nonce c.user_id_required c.read_only m)) l)) o
      ∙ ap (λ (d : Maybe DigestChallenge). challenged_by d e p code f hs q h y) k

-- the ways of the answer
module _ (e : Engine) (t : List ℕ) (code : ℕ) (hs q h y : List ℕ) (b : Bool) (success : b ≡ is_success code) where
  pub answer_declined : b ≡ false → (w : Written) → w ≡ connect_replies e e.peer code hs y
      → accepting (leaving h w) t ≡ accepted_by e t code hs q h y
  unfolding accepted_by
  answer_declined k w i = ap (λ (w : Written). accepting (leaving h w) t) i ∙ sym (simp (sym success ∙ k))

  module _ (k : b ≡ true) (a : Answers) (opens : a ≡ answer_for e t hs q) where
    answer_by_lem : (x : Accepting) → x ≡ opened_in a e code hs q h y → x ≡ accepted_by e t code hs q h y
    unfolding accepted_by
    answer_by_lem x i = i ∙ ap (λ (a : Answers). opened_in a e code hs q h y) opens ∙ sym (simp (sym success ∙ k))

    pub answer-full : a.answer ≡ None → (w : Written) → w ≡ connect_replies e e.peer 0x53 [] y
        → accepting (leaving h w) a.tables ≡ accepted_by e t code hs q h y
    answer-full f w i =
        answer_by_lem (accepting (leaving h w) a.tables)
        (ap (λ (x : Answering). accepting x a.tables) (ap (λ (w : Written). leaving h w) i ∙ sym (simp f)))

    pub answer-accepted : (r : Answer) → a.answer ≡ Some r → (x : Answering)
        → x ≡ challenged_by (answered_in (headers_of q)) e r.peer code r.front hs q h y
        → accepting x a.tables ≡ accepted_by e t code hs q h y
    answer-accepted r f x i = answer_by_lem (accepting x a.tables) (ap (λ (x : Answering). accepting x a.tables) (i ∙ sym (simp f)))

module _ (e : Engine) (s : Stores) where
  -- ---- a reply

  pub replies-plain : (p : Peer) (code : ℕ) (hs : List ℕ) → within (replies_by e p code [] hs s.reply) s ≡ after 0 (sends e p code hs s)
  unfolding replies_by sends
  replies-plain p code hs = took-sent e p (send_bytes p.remote_max_packet_length code [] hs) _ s refl

  pub replies_connect : (p : Peer) (code : ℕ) (hs : List ℕ) → within (connect_replies e p code hs s.reply) s ≡ after 0 (sends_connect e p code hs s)
  unfolding replies_by sends_connect
  replies_connect p code hs =
      took-sent e p (send_bytes p.remote_max_packet_length code (fields_of e.settings.max_packet_length) hs) _ s refl

  -- ---- a Connect that the host accepted

  pub accepted-replies : (p : Peer) (code : ℕ) (f : ConnectionId) (hs : List ℕ) (c : Option Credentials)
      → within (connect_replies e p code (accepted_headers e f (last_packet e s) hs c) s.reply) s
      ≡ after 0 (connect_sends e p code f (list_of (read_headers hs 0)) c s)
  unfolding accepted_headers connect_sends last_headers
  accepted-replies p code f hs c = replies_connect p code (accepted_headers e f (last_packet e s) hs c)

  module _ (code : ℕ) (hs : List ℕ) where
    challenged_is : (p : Peer) (f : ConnectionId) (c : Option PeerChallenge) (x : Place)
        → among (challenged_by (challenge_read c x) e p code f hs (last_packet e s) s.headers s.reply) s
        ≡ after 0 (connect_challenged e p code f hs c s)
    unfolding asks_plan
    challenged_is p f none x = accepted-replies p code f hs none
    challenged_is p f (some c) x = refl

    module _ (t : List ℕ) where
      opened_is : (o : Option Linked) (f : ConnectionId)
          → among_in (opened_in (answer_from (opening_of t o) f) e code hs (last_packet e s) s.headers s.reply) s
          ≡ after_tabled (connect_opened e t o code f hs s)
      unfolding answered_in last_headers
      opened_is none f = ap (λ (m : Stepped). called m t) (replies_connect e.peer 0x53 [])
      opened_is (some l) f =
          ap (λ (m : Stepped). called m l.tables)
          (challenged_is l.peer f (answered_challenge (last_headers e s)) (realm_of (first 0x4D (last_headers e s))))

      answer-opened : (srm : Bool) (v target : Option (List ℕ))
          → among_in (opened_in (answer_by e.peer t srm (id_in v) (target_asked target)) e code hs (last_packet e s) s.headers
          s.reply) s
          ≡ after_tabled (connect_opened e t (opened_for e.peer t srm v target) code (front_for e.peer t v target) hs s)
      answer-opened srm v target =
          opened_is (peerOpened e.peer t srm (id_in v) (target_asked target)) (front_by_of e.peer t (id_in v) (target_asked target))
          ∙ ap₂ (λ (o : Option Linked) (f : ConnectionId). after_tabled (connect_opened e t o code f hs s)) (sym (opened_by_lem e.peer t srm v target))
          (front_by e.peer t v target)

      pub answer_is : among_in (accepted_by e t code hs (last_packet e s) s.headers s.reply) s ≡ after_tabled (connect_answer e code hs s t)
      unfolding accepted_by connect_answer answer_for last_headers
      answer_is = go (is_success code)
        where
          srm : Bool
          srm = e.peer.srm_enabled || srm_asked e (survey_of (some (last_headers e s)))

          named : Option (List ℕ)
          named = first 0xCB (list_of (read_headers hs 0))

          target : Option (List ℕ)
          target = first 0x46 (last_headers e s)

          go : (b : Bool)
              → among_in (pick b (opened_in (answer_for e t hs (last_packet e s)) e code hs (last_packet e s) s.headers s.reply)
              (accepting (leaving s.headers (connect_replies e e.peer code hs s.reply)) t)) s
              ≡ after_tabled (pick b (connect_opened e t (opened_for e.peer t srm named target) code (front_for e.peer t named target) hs s)
              (done_tabled (sends_connect e e.peer code hs s) t))
          go true = answer-opened srm named target
          go false = ap (λ (m : Stepped). called m t) (replies_connect e.peer code hs)

      -- ---- a call for a reply

      to_connect : same_await e.awaits await.Connect ≡ true → connect_answer e code hs s t ≡ reply_answer e code hs s t
      unfolding reply_answer
      to_connect k = sym (simp k)

      to_another : same_await e.awaits await.Connect ≡ false
          → sends_linked e (replied_link e (last_packet e s) t) code hs s ≡ reply_answer e code hs s t
      unfolding reply_answer replied_link last_headers
      to_another k = sym (simp k (go (same_await e.awaits await.Disconnect)))
        where
          left : Linked
          left = disconnected_peer e.peer t (first 0xCB (last_headers e s))

          go : (b : Bool)
              → pick b (sends_linked e left code hs s) (sends_linked e (linked e.peer t) code hs s)
              ≡ sends_linked e (pick b left (linked e.peer t)) code hs s
          go true = refl
          go false = refl

      module _ (g : GoesLent kind.ReplyGiven e s t) (b : Bool) (bad : b ≡ bad_reply code hs) where
        pub reply-bad : b ≡ true → (r : CallResult) → r ≡ refused_with refusal.BadAnswer e → called (stepped r s) t ≡ reply_given_step e code hs s t
        unfolding reply_given_step
        reply-bad k r h = ap (λ (r : CallResult). called (stepped r s) t) h ∙ sym (simp (g.enough, g.fitted, sym bad ∙ k))

        reply_by_lem : b ≡ false → (x : Called) → x ≡ after_tabled (reply_answer e code hs s t) → x ≡ reply_given_step e code hs s t
        unfolding reply_given_step
        reply_by_lem k x h = h ∙ sym (simp (g.enough, g.fitted, sym bad ∙ k))

        module _ (good : b ≡ false) (n : Bool) (now : n ≡ same_await e.awaits await.Connect) where
          pub reply_connect : n ≡ true → (a : Accepting) → a ≡ accepted_by e t code hs (take e.length s.packet) s.headers s.reply
              → among_in a s ≡ reply_given_step e code hs s t
          unfolding last_packet
          reply_connect k a h =
              reply_by_lem good (among_in a s)
              (ap (λ (a : Accepting). among_in a s) h ∙ answer_is ∙ ap (λ (d : DoneTabled). after_tabled d) (to_connect (sym now ∙ k)))

          pub reply_another : n ≡ false → (l : Linked) (w : Written) → l ≡ replied_link e (take e.length s.packet) t
              → w ≡ replies_by e l.peer code [] hs s.reply → called (within w s) l.tables ≡ reply_given_step e code hs s t
          unfolding last_packet
          reply_another k l w i h =
              reply_by_lem good (called (within w s) l.tables)
              (ap (λ (m : Stepped). called m l.tables) (ap (λ (w : Written). within w s) h ∙ replies-plain l.peer code hs)
              ∙ ap (λ (l : Linked). after_tabled (sends_linked e l code hs s)) i
              ∙ ap (λ (d : DoneTabled). after_tabled d) (to_another (sym now ∙ k)))

-- good header bytes are not too long
pub good-reply : (code : ℕ) (hs : List ℕ) (t : Bool) → t ≡ bad_reply code hs → t ≡ false → length hs ≤ 65535
good-reply code hs t h k = reply-headers-fit code hs (sym h ∙ k)

-- ---- a call for credentials

-- no Connect waits for them
pub credentials-other : (o : Operation) (e : Engine) (c : Option Credentials) (q h y : List ℕ)
    → OneOf (0 ∷ 1 ∷ 2 ∷ 3 ∷ 4 ∷ 5 ∷ 7 ∷ []) (tag_of the_type o)
    → written (refused_with refusal.WrongMoment e) y ≡ credentials_by o e c q h y
credentials-other Nothing e c q h y k = refl
credentials-other Trailing e c q h y k = refl
credentials-other (Putting g srm) e c q h y k = refl
credentials-other (Getting g srm confirm wait) e c q h y k = refl
credentials-other (Sending o x srm wait) e c q h y k = refl
credentials-other (GatheringOp o g) e c q h y k = refl
credentials-other (Draining code) e c q h y k = refl
credentials-other (Connecting code f n) e c q h y k = absurd (miss (0 ∷ 1 ∷ 2 ∷ 3 ∷ 4 ∷ 5 ∷ 7 ∷ []) 6 tt k)

-- what the call gives by the last packet and two stores is the model's
module _ (e : Engine) (c : Option Credentials) (s : Stores) where
  credentials_is : (o : Operation) → within (credentials_by o e c (last_packet e s) s.headers s.reply) s ≡ credentials_with o e c s
  credentials_is Nothing = refl
  credentials_is Trailing = refl
  credentials_is (Putting g srm) = refl
  credentials_is (Getting g srm confirm wait) = refl
  credentials_is (Sending o x srm wait) = refl
  credentials_is (GatheringOp o g) = refl
  credentials_is (Draining code) = refl
  credentials_is (Connecting code f n) = go (long_user c)
    where
      hs : List ℕ
      hs = take n s.headers

      go : (t : Bool)
          → within (pick t (written (refused_with refusal.BadAnswer e) s.reply)
          (connect_replies e e.peer code (accepted_headers e f (last_packet e s) hs c) s.reply)) s
          ≡ checked t e s (connect_sends e e.peer code f (list_of (read_headers hs 0)) c s)
      go true = refl
      go false = accepted-replies e s e.peer code f hs c

  pub credentials-call : Goes kind.CredentialsGiven e s → (w : Written)
      → w ≡ credentials_by e.operation e c (take e.length s.packet) s.headers s.reply
      → within w s ≡ credentials_given_step e c s
  unfolding credentials_given_step last_packet
  credentials-call g w h = ap (λ (w : Written). within w s) h ∙ credentials_is e.operation ∙ sym (g.whole _)

-- a user id counts where there are credentials; m says whether it does
module _ (has named m : Bool) (is : m ≡ has && named) (user password : List ℕ) where
  abbrev told : Option Credentials
  told = credentials_of has (given named user) password

  long_is : (m && ltb 255 (length user)) ≡ long_user told
  long_is = ap (λ (x : Bool). x && ltb 255 (length user)) is ∙ go has named
    where
      go : (a b : Bool) → (a && b && ltb 255 (length user)) ≡ long_user (credentials_of a (given b user) password)
      go true true = refl
      go true false = refl
      go false b = refl

  told_is : credentials_of has (given m user) password ≡ told
  told_is = ap (λ (x : Bool). credentials_of has (given x user) password) is ∙ go has
    where
      go : (a : Bool) → credentials_of a (given (a && named) user) password ≡ credentials_of a (given named user) password
      go true = refl
      go false = refl

  pub user-fits : (t : Bool) → t ≡ (m && ltb 255 (length user)) → t ≡ false → overlong (given m user) ≡ false
  user-fits t h k = go m (sym h ∙ k)
    where
      go : (a : Bool) → (a && ltb 255 (length user)) ≡ false → overlong (given a user) ≡ false
      go true z = z
      go false z = refl

  module _ (o : Operation) (code : ℕ) (f : ConnectionId) (n : ℕ) (waits : o ≡ Connecting code f n) (e : Engine) (q h y : List ℕ)
      (t : Bool) (long : t ≡ (m && ltb 255 (length user))) where
    pub credentials-long : t ≡ true → (r : CallResult) → r ≡ refused_with refusal.BadAnswer e → written r y ≡ credentials_by o e told q h y
    credentials-long k r i = ap (λ (r : CallResult). written r y) i ∙ sym (simp (waits, sym long_is ∙ sym long ∙ k))

    pub credentials_go : t ≡ false → (w : Written)
        → w ≡ connect_replies e e.peer code (accepted_headers e f q (take n h) (credentials_of has (given m user) password)) y
        → w ≡ credentials_by o e told q h y
    credentials_go k w i =
        i
        ∙ ap (λ (c : Option Credentials). connect_replies e e.peer code (accepted_headers e f q (take n h) c) y) told_is
        ∙ sym (simp (waits, sym long_is ∙ sym long ∙ k))

-- the headers that wait are in the header store
pub waiting-length : (o : Operation) (code : ℕ) (f : ConnectionId) (n limit : ℕ) → o ≡ Connecting code f n → sound_operation limit o ≡ true → n ≤ 65535
waiting-length o code f n limit h k = leb-true n 65535 (simp h at k)
