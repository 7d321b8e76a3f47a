-- The host's answers to Connect, Disconnect and the rest: what the engine makes of them is what the journal does. Assumes nothing.
use mathlib.Core.Path.{◌≡◌, refl, sym, ap, ap₂, ◌∙◌, subst}
use mathlib.Core.List.{List, [], ◌∷◌}
use mathlib.Core.Bool.{Bool, true, false, ◌||◌}
use mathlib.Core.Option.{Option, none, some}
use Prim.Native.Nat.{ℕ, ◌≤◌}
use native.Mathlib.Omega.{arith}
use lib.ListN.{length}
use Rattle.std.specs.Prelude.{Some, None}
use Rattle.base.specs.Pick.{pick}
use Rattle.digest.specs.Md5.{octets16}
use Rattle.digest.specs.declared.md5.Octets16.{Octets16}
use Rattle.packet.specs.Codes.{is_success}
use Rattle.packet.specs.Header.{Header, read_headers, first}
use Rattle.packet.specs.Packet.{Request as Packet}
use Rattle.packet.specs.Auth.{Challenge as PeerChallenge, Response}
use Rattle.packet.specs.declared.opcode.Opcode.{Opcode}
use Rattle.packet.specs.declared.opcode.Opcode.TheVariants as op
use Rattle.journal.specs.Calls.{Credentials}
use Rattle.journal.specs.Checks.{Check, right, wrong}
use Rattle.journal.specs.Journal.{Settings as JournalSettings, Standing, Opened, Journal, unchanged, stands, asks_srm, opens_for, connected, disconnected, reply_to, reply_last, replied, passes_with, response_in, passes, headers_of, password_checked, challenged, list_of}
use Rattle.incoming.specs.Survey.{survey_of}
use Rattle.connection.specs.Reply.{fields_of, send_bytes, front}
use Rattle.connection.specs.Peer.{ids_of, Linked, checked_peer, verified_peer, challenged_peer, opened_for, disconnected_peer, ConnectionId, Challenge}
use Rattle.connection.specs.ConnectReply.{answered_challenge}
use Rattle.connection.specs.declared.peer.Peer.{Peer}
use Rattle.model.specs.Step.{Stores, with_headers, done_tabled, asks, sent, sends, sends_connect}
use Rattle.model.specs.Request.{last_packet, last_headers, client_response}
use Rattle.model.specs.Calls.{sends_linked}
use Rattle.model.specs.Connect.{srm_asked, connect_sends, front_for, credentials_for, connect_challenged, connect_opened, connect_answer, checks, password_answered, password_answer, nonce_answer, demands_user}
use Rattle.model.specs.Theorem.{settings_of}
use Rattle.server.specs.declared.Operation.TheVariants.{Nothing, Connecting}
use Rattle.server.specs.declared.Await.TheVariants as await
use Rattle.server.specs.declared.Engine.{Engine}
use Rattle.server.specs.declared.HostRequest.TheVariants as request
use Rattle.server.specs.declared.Outcome.TheVariants as outcome
use Rattle.connection.proofs.Standings.{PeerFits, challenge_bytes, standing_of, tables-standing, verified-standing, challenged-standing, disconnected-standing, opened-standing, full-standing, wrong-standing, Windowed, challenged_window, disconnected_window, checked_window, verified_window, opened_window}
use Rattle.model.proofs.Coupling.{Held, AskedBy, Told, ToldTabled, told-done, told_too_large, told-replies}

-- ---- a reply that is sent, or is too long

module _ (ts : List ℕ) (e : Engine) (s : Stores) (p : Peer) (j : Journal) (w : Held ts e.settings p Nothing s [] j) where
  sent-told : (x : Option (List ℕ)) → Told ts (sent e p x s) (unchanged j)
  sent-told none = told_too_large ts e p s j
  sent-told (some q) = told-replies ts e p s j Nothing q refl w

  pub sends-told : (code : ℕ) (hs : List ℕ) → Told ts (sends e p code hs s) (unchanged j)
  unfolding sends
  sends-told code hs = sent-told (send_bytes p.remote_max_packet_length code [] hs)

  pub sends-connect-told : (code : ℕ) (hs : List ℕ) → Told ts (sends_connect e p code hs s) (unchanged j)
  unfolding sends_connect
  sends-connect-told code hs = sent-told (send_bytes p.remote_max_packet_length code (fields_of e.settings.max_packet_length) hs)

  pub connect-sends-told : (code : ℕ) (f : ConnectionId) (answer : List Header) (c : Option Credentials)
      → Told ts (connect_sends e p code f answer c s) (unchanged j)
  unfolding connect_sends
  connect-sends-told code f answer c = sends-connect-told code _

-- ---- an answer about the last packet

-- the check of the password
checks_are : (c : Challenge) (r : Option Response) (d : Bool) (p : Option (List ℕ)) → passes_with d (challenge_bytes c) r p ≡ checks c r d p
checks_are None r d p = refl
checks_are (Some n) none d p = refl
checks_are (Some n) (some r) d none = refl
checks_are (Some n) (some r) d (some p) = refl

module _ (ts : List ℕ) (e : Engine) (s : Stores) (j : Journal) (o : Opcode) (w : AskedBy ts e.settings e.peer o e.length s j) where
  pub headers_are : w.request.headers ≡ last_headers e s
  unfolding last_headers last_packet
  headers_are = w.headers

  -- the journal with another standing, over a table store `u`
  held-stands : (u : List ℕ) (z : Stores) (p : Peer) (x : Standing) (h : List Check) → x ≡ standing_of p u h → Windowed p h
      → Held u e.settings p Nothing z [] (stands j x)
  held-stands u z p x h i k =
      record {
        fixed = record { settings = w.held.fixed.settings; past = h; standing = i; window = k; ended = w.held.fixed.ended };
        begun = w.held.begun;
        opened = w.held.opened;
      }

  asked-stands : (p : Peer) (x : Standing) (h : List Check) → x ≡ standing_of p ts h → Windowed p h
      → AskedBy ts e.settings p o e.length s (stands j x)
  asked-stands p x h i k =
      record { held = held-stands ts s p x h i k; request = w.request; last = w.last; opcode = w.opcode; headers = w.headers }

  -- the checks of passwords up to here, and the engine's standing after them
  abbrev past : List Check
  past = w.held.fixed.past

  abbrev pub stood : Standing
  stood = standing_of e.peer ts past

  -- what the journal does on a reply
  pub replied-to : (code : ℕ) (hs : List ℕ) → replied j.opened j code hs ≡ reply_to o j w.request code hs
  replied-to code hs =
      ap (λ (x : Opened). replied x j code hs) w.held.opened ∙ ap (λ (x : Option Packet). reply_last x j code hs) w.last
      ∙ ap (λ (x : Opcode). reply_to x j w.request code hs) w.opcode

  -- ---- Connect

  abbrev pub srm : Bool
  srm = e.peer.srm_enabled || srm_asked e (survey_of (some (last_headers e s)))

  abbrev pub target : Option (List ℕ)
  target = first 0x46 (last_headers e s)

  pub connected-is : (code : ℕ) (answer : List Header)
      → connected j.settings j.standing w.request.headers code answer
      ≡ pick (is_success code) (opens_for stood srm (first 0xCB answer) target) stood
  unfolding connected asks_srm survey_of
  connected-is code answer =
      ap (λ (x : JournalSettings). connected x j.standing w.request.headers code answer) w.held.fixed.settings
      ∙ ap₂ (λ (x : Standing) (y : List Header). connected (settings_of e.settings) x y code answer) w.held.fixed.standing headers_are

  module _ (f : PeerFits e.peer.nonces e.peer) (room : 64 ≤ length ts) (code : ℕ) (hs : List ℕ) where
    -- the ConnectionID that the host's answer names
    abbrev named : Option (List ℕ)
    named = first 0xCB (list_of (read_headers hs 0))

    challenged-told : (u : List ℕ) (p : Peer) (x : Standing) (g : ConnectionId) (c : Option PeerChallenge) → x ≡ standing_of p u past → Windowed p past
        → Told u (connect_challenged e p code g hs c s) (unchanged (stands j x))
    challenged-told u p x g none i k = connect-sends-told u e s p (stands j x) (held-stands u s p x past i k) code g _ none
    challenged-told u p x g (some c) i k =
        told-done u e p (Connecting code g (length hs)) await.Credentials (outcome.Request (credentials_for (last_packet e s) c))
        (with_headers s (front hs s.headers)) (stands j x) []
        (held-stands u (with_headers s (front hs s.headers)) p x past i k) refl refl

    opened-told : (a : Option (List ℕ)) (g : ConnectionId) (p : Option Linked) → opened_for e.peer ts srm a target ≡ p
        → ToldTabled (connect_opened e ts p code g hs s) (unchanged (stands j (opens_for stood srm a target)))
    opened-told a g none i =
        sends-connect-told ts e s e.peer (stands j _)
        (held-stands ts s e.peer _ past (full-standing e.peer ts past srm f room a target i) w.held.fixed.window) 0x53 []
    opened-told a g (some q) i =
        challenged-told q.tables q.peer _ g (answered_challenge (last_headers e s))
        (sym (opened-standing e.peer ts past srm f room q a target i))
        (opened_window e.peer ts past srm f room q a target i ∙ w.held.fixed.window)

    pub connect_told : o ≡ op.Connect → ToldTabled (connect_answer e code hs s ts) (unchanged (replied j.opened j code hs))
    unfolding connect_answer
    connect_told c =
        subst (λ (x : Journal). ToldTabled (connect_answer e code hs s ts) (unchanged x))
        (sym (replied-to code hs ∙ ap (λ (x : Opcode). reply_to x j w.request code hs) c
        ∙ ap (stands j) (connected-is code (list_of (read_headers hs 0)))))
        (go (is_success code))
      where
        go : (t : Bool)
            → ToldTabled (pick t (connect_opened e ts (opened_for e.peer ts srm named target) code (front_for e.peer ts named target) hs s)
            (done_tabled (sends_connect e e.peer code hs s) ts))
            (unchanged (stands j (pick t (opens_for stood srm named target) stood)))
        go true = opened-told named (front_for e.peer ts named target) (opened_for e.peer ts srm named target) refl
        go false =
            sends-connect-told ts e s e.peer (stands j stood) (held-stands ts s e.peer stood past refl w.held.fixed.window) code hs

    -- ---- Disconnect

    abbrev left : Linked
    left = disconnected_peer e.peer ts (first 0xCB (last_headers e s))

    pub disconnect-told : o ≡ op.Disconnect → ToldTabled (sends_linked e left code hs s) (unchanged (replied j.opened j code hs))
    disconnect-told c =
        subst (λ (x : Journal). ToldTabled (sends_linked e left code hs s) (unchanged x))
        (sym (replied-to code hs ∙ ap (λ (x : Opcode). reply_to x j w.request code hs) c))
        (sends-told left.tables e s left.peer (stands j (disconnected j.standing (first 0xCB w.request.headers)))
        (held-stands left.tables s left.peer _ past
        (ap₂ (λ (x : Standing) (y : List Header). disconnected x (first 0xCB y)) w.held.fixed.standing headers_are
        ∙ sym (disconnected-standing e.peer ts past (first 0xCB (last_headers e s)) (omega (arith, f.count))))
        (disconnected_window e.peer ts (first 0xCB (last_headers e s)) ∙ w.held.fixed.window))
        code hs)

  -- ---- the password and the nonce

  passes-is : (p : Option (List ℕ)) → passes j p ≡ checks e.peer.challenge (client_response e s) (demands_user e.settings) p
  unfolding passes client_response
  passes-is p =
      ap₂ (λ (x : Standing) (y : Option Packet). passes_with j.settings.demands_user x.challenge (response_in (first 0x4E (headers_of y))) p)
      w.held.fixed.standing w.last
      ∙ ap₂ (λ (d : Bool) (y : List Header). passes_with d (challenge_bytes e.peer.challenge) (response_in (first 0x4E y)) p)
      (ap (λ (x : JournalSettings). x.demands_user) w.held.fixed.settings) headers_are
      ∙ checks_are e.peer.challenge _ _ p

  pub password-told : o ≡ op.Connect → (p : Option (List ℕ))
      → Told ts (password_answer e p s) (unchanged (stands j (password_checked j.standing (passes j p))))
  unfolding password_answer password_answered
  password-told c p =
      subst (λ (x : Standing). Told ts (password_answer e p s) (unchanged (stands j x)))
      (sym (ap₂ (λ (x : Standing) (t : Bool). password_checked x t) w.held.fixed.standing (passes-is p)))
      (go (checks e.peer.challenge (client_response e s) (demands_user e.settings) p))
    where
      still-asked : (q : Peer) (x : Standing) (h : List Check) → x ≡ standing_of q ts h → Windowed q h
          → AskedBy ts e.settings q op.Connect e.length s (stands j x)
      still-asked q x h i k = subst (λ (y : Opcode). AskedBy ts e.settings q y e.length s (stands j x)) c (asked-stands q x h i k)

      go : (t : Bool)
          → Told ts
          (pick t (asks e (verified_peer (checked_peer e.peer false)) Nothing await.Connect (request.Connect e.length) s)
          (asks e (checked_peer e.peer true) Nothing await.Nonce request.Nonce s))
          (unchanged (stands j (password_checked stood t)))
      go true =
          told-done ts e (verified_peer (checked_peer e.peer false)) Nothing await.Connect (outcome.Request (request.Connect e.length)) s
          (stands j _) []
          (still-asked (verified_peer (checked_peer e.peer false)) _ (right ∷ past) (sym (verified-standing e.peer ts past))
          (verified_window e.peer past w.held.fixed.window))
          refl
          refl
      go false =
          told-done ts e (checked_peer e.peer true) Nothing await.Nonce (outcome.Request request.Nonce) s (stands j _) []
          (still-asked (checked_peer e.peer true) _ (wrong ∷ past) (sym (wrong-standing e.peer ts past))
          (checked_window e.peer past wrong w.held.fixed.window))
          refl
          refl

  -- over a table store `u` in which the nonce is remembered, and the ids are as before
  pub nonce-told : (u : List ℕ) → ids_of e.peer u ≡ ids_of e.peer ts → (n : Octets16) (l : List ℕ)
      → Told u (nonce_answer e n l s) (unchanged (stands j (challenged j.standing (octets16 n))))
  unfolding nonce_answer
  nonce-told u i n l =
      sends-connect-told u e s (challenged_peer e.peer n) (stands j (challenged j.standing (octets16 n)))
      (held-stands u s (challenged_peer e.peer n) _ past
      (ap (λ (x : Standing). challenged x (octets16 n)) (w.held.fixed.standing ∙ sym (tables-standing e.peer ts u past i))
      ∙ sym (challenged-standing e.peer u past n))
      (challenged_window e.peer n ∙ w.held.fixed.window))
      0x41 _
