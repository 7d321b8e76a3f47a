-- The claims on a log taken frame by frame: what is done with a frame behind the first is that it is told as wrong, or fed as the entry that its
-- content stands for; and an entry that is no packet hands nothing over. Assumes nothing.
use Rattle.std.proofs.Common.{◌≡◌, ℕ, zero, suc, ◌+◌, ◌*◌, ◌/◌, ◌%◌, ◌^◌, ◌<◌, ◌≤◌, Bool, true, false, ◌||◌, eqb, ltb, List, [], ◌∷◌, ◌++◌, length, get_or, take, drop, sym, refl, ap, ◌∙◌, subst, ap₂, arith, length-append, length-take, length-take-le, get_or-drop, get_or-take, ltb-false, ltb-true, ne_eqb, eqb-true}
use lib.ListN.{get_or-eq_default}
use Rattle.base.specs.Pick.{pick}
use Rattle.base.specs.Bytes.{be32, bytes32}
use Rattle.archive.specs.Block.{same}
use Rattle.archive.specs.Claims.{Octets}
use Rattle.table.specs.Targets.{target_bytes}
use Rattle.packet.specs.HeaderIds as header_id
use Rattle.packet.specs.Header.{first}
use Rattle.packet.specs.Codes.{is_success, sent_code}
use Rattle.packet.specs.ResponseCodes as response
use Rattle.connection.specs.Peer.{id_in, authenticated_peer, answer_by}
use Rattle.connection.specs.Pieces.{headers_from}
use Rattle.filing.specs.Frame.{Content, check_at}
use Rattle.filing.specs.Reading.{Log, log, put_first, size_in, content_of, check_in, frame_fault, read_from, read_log}
use Rattle.filing.specs.Kinds.{kind_number, letters_of, ids_in, entry_in, entries_in, audited}
use Rattle.filing.specs.ReadBack.{kind_read, entry_read, entry_with}
use Rattle.filing.specs.Entries.{LogEntry, received, sent, answered, object, checked, nonce, closed, ended, Handed}
use Rattle.filing.specs.declared.frame.Kind.{Kind}
use Rattle.filing.specs.declared.frame.Kind.TheVariants as kind
use Rattle.std.specs.Prelude.{Option, Some, None}
use Rattle.filing.specs.declared.entry.EntryRead.{EntryRead}
use Rattle.filing.specs.declared.entry.EntryRead.TheVariants as says
use Rattle.filing.proofs.Told.{entry-reads}
use Rattle.journal_code.specs.declared.state.State.{State}
use Rattle.journal_code.specs.declared.state.Open.{Open}
use Rattle.journal_code.specs.declared.state.Open.TheVariants as open_as
use Rattle.journal_code.specs.declared.state.Last.{Last}
use Rattle.journal_code.specs.declared.state.Last.TheVariants as last_as
use Rattle.journal_code.specs.State.{state_with, quiet, ended_with, standing_by, opens_now, fresh_state}
use Rattle.journal_code.specs.Route.{asks_in}
use Rattle.journal_code.specs.Answer.{Tabled, tabled, linked_in, is_nothing, stands_answered, connected_step, reply_step, answered_inside, answered_step, object_in, object_state, sent_object, sent_in, sent_state, checked_peers, checked_state, nonce_state, closed_all, Remaining, closes_to, closed_step, ended_state}
use Rattle.journal_code.specs.Run.{Stores, Held, entry_done, record_in, handed_in}
use Rattle.journal_code.specs.Claims.{Lent, AllOctets, settings_read}
use Rattle.audit.specs.declared.place.Here.{Here}
use Rattle.audit.specs.declared.entry.Act.{Act}
use Rattle.audit.specs.declared.entry.Act.TheVariants as act
use Rattle.audit.specs.declared.entry.Audit.{Audit}
use Rattle.audit.specs.Feed.{frame_done}
use Rattle.audit.specs.Waiting.{is_handed}
use Rattle.audit.specs.Place.{four_at}
use Rattle.audit.specs.Taken.{is_packet, open_act, first_act, known_act, later_act, act_for, audit_with, records_after, Taken, taken_as, act_done, frame_taken}
use Rattle.audit.specs.Right.{frame_hands, frames_done, frames_hand}
use Rattle.audit.specs.Whole.{Beside, letters_in, here_of, known_with, taken_next, act_gives, given_next, frames_taken, frames_give, AllLettered, TakenRight, TakenAudited}
use Rattle.audit.proofs.Right.{audit-right}

-- ---- letters

bytes_back : (a b c d : ℕ) → a < 256 → b < 256 → c < 256 → d < 256 → bytes32 (((a * 256 + b) * 256 + c) * 256 + d) ≡ a ∷ b ∷ c ∷ d ∷ []
bytes_back a b c d p q r s =
    let m = ((a * 256 + b) * 256 + c) * 256 + d in
    let w : m / 16777216 % 256 ≡ a = omega arith in
    let x : m / 65536 % 256 ≡ b = omega arith in
    let y : m / 256 % 256 ≡ c = omega arith in
    let z : m % 256 ≡ d = omega arith in
    simp (w, x, y, z)

letters-back : (l : List ℕ) → length l ≡ 4 → Octets l → bytes32 (be32 l 0) ≡ l
letters-back (a ∷ b ∷ c ∷ d ∷ []) h o = bytes_back a b c d (o 0) (o 1) (o 2) (o 3)
letters-back [] h o = absurd (omega arith)
letters-back (a ∷ []) h o = absurd (omega arith)
letters-back (a ∷ b ∷ []) h o = absurd (omega arith)
letters-back (a ∷ b ∷ c ∷ []) h o = absurd (omega arith)
letters-back (a ∷ b ∷ c ∷ d ∷ e ∷ l) h o = absurd (omega arith)

-- letters that are read as a kind are its own
abbrev LettersAre : ℕ → Option Kind → Type 0
LettersAre l (Some k) = l ≡ kind_number k
LettersAre l None = Unit {0}

record Letters (l : ℕ) (r : Option Kind) : Type 0 where
  are : LettersAre l r

ask : (l : ℕ) (k : Kind) {r : Option Kind} → Letters l r → Letters l (pick (eqb l (kind_number k)) (Some k) r)
ask l k {r} o = go (eqb l (kind_number k)) refl
  where
    go : (t : Bool) → eqb l (kind_number k) ≡ t → Letters l (pick t (Some k) r)
    go true e = record { are = eqb-true l (kind_number k) e }
    go false e = o

letters-read : (l : ℕ) → Letters l (kind_read l)
letters-read l =
    ask l kind.Open (ask l kind.Recv (ask l kind.Part (ask l kind.Sent (ask l kind.Answ (ask l kind.Objt
    (ask l kind.Pass (ask l kind.Nonc (ask l kind.Clos (ask l kind.File (ask l kind.Fail (ask l kind.Done (record { are = tt }))))))))))))

-- ---- what is done with a frame

-- a frame behind the first is told as wrong, or fed as its entry
abbrev Does : Content → Act → Type 0
Does c act.Pass = ⊥
Does c act.Start = ⊥
Does c (act.Wrong f) = f ≡ 0 → ⊥
Does c (act.Feed e) = entry_with e c.payload ≡ entry_in c

module _ (c : Content) where
  packet-does : (t : Bool) → entry_with says.Packet c.payload ≡ entry_in c → Does c (pick t (act.Feed says.Packet) (act.Wrong 4))
  packet-does true e = e
  packet-does false e = λ z. omega (arith, z)

  kind-does : (k : Kind) → entry_with (entry_read k c.payload) c.payload ≡ entry_in c → Does c (known_act (kind_number k) k c.payload)
  kind-does kind.Open e = λ z. omega (arith, z)
  kind-does kind.Recv e = packet-does (is_packet c.payload) e
  kind-does kind.Part e = e
  kind-does kind.Sent e = e
  kind-does kind.Answ e = e
  kind-does kind.Objt e = e
  kind-does kind.Pass e = e
  kind-does kind.Nonc e = e
  kind-does kind.Clos e = e
  kind-does kind.File e = e
  kind-does kind.Fail e = e
  kind-does kind.Done e = e

  module _ (four : length c.kind ≡ 4) (o : Octets c.kind) where
    kind_is : (k : Kind) → letters_in c ≡ kind_number k → entry_with (entry_read k c.payload) c.payload ≡ entry_in c
    kind_is k e =
        entry-reads k c.clock c.payload
        ∙ ap (λ (l : List ℕ). entry_in (record { kind = l; clock = c.clock; payload = c.payload }))
        (sym (ap bytes32 e) ∙ letters-back c.kind four o)

    read-does : (r : Option Kind) → LettersAre (letters_in c) r → Does c (later_act (letters_in c) r c.payload)
    read-does (Some k) e = subst (λ (l : ℕ). Does c (known_act l k c.payload)) (sym e) (kind-does k (kind_is k e))
    read-does None u = λ z. omega (arith, z)

    later-does : (n : ℕ) → (n ≡ 0 → ⊥) → Does c (act_for 0 n (letters_in c) c.payload)
    unfolding act_for
    later-does n h = rw (ne_eqb n 0 h) (read-does (kind_read (letters_in c)) (letters-read (letters_in c)).are)

-- ---- what is no packet hands nothing over

pick_calm : (t : Bool) (a b : State) → a.handed ≡ false → b.handed ≡ false → (pick t a b).handed ≡ false
pick_calm true a b p q = p
pick_calm false a b p q = q

pick-tabled : (t : Bool) (a b : Tabled) → a.state.handed ≡ false → b.state.handed ≡ false → (pick t a b).state.handed ≡ false
pick-tabled true a b p q = p
pick-tabled false a b p q = q

module _ (s : State) where
  sent-inside : (o : Open) (b : ℕ) → (sent_in o s b).handed ≡ false
  unfolding state_with sent_object
  sent-inside open_as.Nothing b = refl
  sent-inside open_as.Trailing b = refl
  sent-inside (open_as.Putting srm) b = refl
  sent-inside open_as.Getting b = refl
  sent-inside open_as.Sending b = pick_calm (eqb b (sent_code response.continue)) (quiet s) (opens_now s open_as.Nothing) refl refl
  sent-inside (open_as.Gathering o) b = refl
  sent-inside open_as.Draining b = refl

  sent_calm : (b : ℕ) → (sent_state s b).handed ≡ false
  unfolding sent_state state_with
  sent_calm b =
      pick_calm s.ended (pick (eqb s.number 0) (ended_with s 5) (quiet s)) (sent_in s.opened s b)
      (pick_calm (eqb s.number 0) (ended_with s 5) (quiet s) refl refl) (sent-inside s.opened b)

  object-inside : (o : Open) → (object_in o s).handed ≡ false
  unfolding state_with
  object-inside open_as.Nothing = refl
  object-inside open_as.Trailing = refl
  object-inside (open_as.Putting srm) = refl
  object-inside open_as.Getting = refl
  object-inside open_as.Sending = refl
  object-inside (open_as.Gathering o) = refl
  object-inside open_as.Draining = refl

  object_calm : (object_state s).handed ≡ false
  unfolding object_state state_with
  object_calm = pick_calm s.ended (quiet s) (object_in s.opened s) refl (object-inside s.opened)

  checked_calm : (right : Bool) → (checked_state s right).handed ≡ false
  unfolding checked_state state_with
  checked_calm right = pick_calm s.ended (quiet s) (standing_by s (checked_peers s.peer right)) refl refl

  nonce_calm : (nonce_state s).handed ≡ false
  unfolding nonce_state state_with
  nonce_calm = pick_calm s.ended (quiet s) (standing_by s (authenticated_peer s.peer false s.peer.challenge)) refl refl

  ended_calm : (ended_state s).handed ≡ false
  unfolding ended_state state_with
  ended_calm =
      pick_calm s.ended (quiet s) (pick (eqb s.begun 0) (ended_with s 1) (ended_with s 2)) refl
      (pick_calm (eqb s.begun 0) (ended_with s 1) (ended_with s 2) refl refl)

  reply_calm : (l : Last) (code : ℕ) (hs t : List ℕ) → (reply_step l s code hs t).state.handed ≡ false
  unfolding connected_step state_with
  reply_calm last_as.Other code hs t = refl
  reply_calm (last_as.Connect enable w) code hs t =
      pick-tabled (is_success code)
      (stands_answered s (answer_by s.peer t (asks_in s enable) (id_in (first header_id.connection_id (headers_from hs 0))) w))
      (tabled (quiet s) t) refl refl
  reply_calm (last_as.Disconnect i) code hs t = refl

  inside_calm : (o : Open) → (answered_inside o s).handed ≡ false
  unfolding state_with
  inside_calm open_as.Nothing = refl
  inside_calm open_as.Trailing = refl
  inside_calm (open_as.Putting srm) = refl
  inside_calm open_as.Getting = refl
  inside_calm open_as.Sending = refl
  inside_calm (open_as.Gathering o) = refl
  inside_calm open_as.Draining = refl

  answered_calm : (code : ℕ) (hs t : List ℕ) → (answered_step s code hs t).state.handed ≡ false
  unfolding answered_step state_with
  answered_calm code hs t =
      let still = tabled (quiet s) t in
      let open-now = tabled (answered_inside s.opened s) t in
      let reply = reply_step s.last s code hs t in
      let goes_on = pick (is_nothing s.opened) reply open-now in
      let room = linked_in s.peer.count (length t) in
      pick-tabled s.ended still (pick room goes_on still) refl
      (pick-tabled room goes_on still
      (pick-tabled (is_nothing s.opened) reply open-now (reply_calm s.last code hs t) (inside_calm s.opened)) refl)

  closes_calm : (l : List ℕ) (x : Remaining) → (closes_to l s x).state.handed ≡ false
  unfolding state_with
  closes_calm [] x = refl
  closes_calm (y ∷ l) x = refl

  closed_calm : (l t : List ℕ) → (closed_step s l t).state.handed ≡ false
  unfolding closed_step state_with
  closed_calm l t =
      let still = tabled (quiet s) t in
      let left = closed_all l s.peer.count t in
      let room = linked_in s.peer.count (length t) in
      pick-tabled s.ended still (pick room (closes_to l s left) still) refl
      (pick-tabled room (closes_to l s left) still (closes_calm l left) refl)

none-handed : (h : Held) → h.state.handed ≡ false → [] ≡ handed_in h
none-handed h e =
    sym (ap (λ (t : Bool). pick t (record { given = record_in h.state h.stores; target = target_bytes h.state.target } ∷ []) []) e)

-- a frame that is no entry gives nothing, whatever the state says
nothing-given : (s : State) (x : Stores) → act_gives (act.Feed says.Nothing) s x ≡ []
nothing-given s x = refl

-- a frame that is fed gives what its entry hands over
gives : (e : EntryRead) (s : State) (x : Stores) (p : List ℕ)
    → act_gives (act.Feed e) (frame_done s x (entry_with e p)).state (frame_done s x (entry_with e p)).stores ≡ frame_hands s x (entry_with e p)
gives says.Packet s x p = refl
gives (says.Reply b) s x p = none-handed (entry_done s x (sent b)) (sent_calm s b)
gives (says.Answer code) s x p = none-handed (entry_done s x (answered code (drop 1 p))) (answered_calm s code (drop 1 p) x.tables)
gives says.Object s x p = none-handed (entry_done s x object) (object_calm s)
gives (says.Check right) s x p = none-handed (entry_done s x (checked right)) (checked_calm s right)
gives says.Nonce s x p = none-handed (entry_done s x (nonce p)) (nonce_calm s)
gives says.Ids s x p = none-handed (entry_done s x (closed (ids_in p))) (closed_calm s (ids_in p) x.tables)
gives says.End s x p = none-handed (entry_done s x ended) (ended_calm s)
gives says.Nothing s x p = nothing-given s x

-- the count goes on with what is given
counts : (e : EntryRead) (s : State) (x : Stores) (m r : ℕ) → r ≡ m % 2 ^ 32
    → records_after r (is_handed e s.handed) ≡ (m + length (act_gives (act.Feed e) s x)) % 2 ^ 32
unfolding records_after
counts e s x m r h = go (is_handed e s.handed)
  where
    one : Handed
    one = record { given = record_in s x; target = target_bytes s.target }

    go : (t : Bool) → pick t ((r + 1) % 2 ^ 32) r ≡ (m + length (pick t (one ∷ []) [])) % 2 ^ 32
    go true = omega (arith, h)
    go false = omega (arith, h)

-- ---- one frame

record Step (c : Content) (t u : Taken) (l : List Handed) : Type 0 where
  state : u.audit.state ≡ (frame_done t.audit.state t.stores (entry_in c)).state
  stores : u.stores ≡ (frame_done t.audit.state t.stores (entry_in c)).stores
  given : l ≡ frame_hands t.audit.state t.stores (entry_in c)
  count : (m : ℕ) → t.audit.records ≡ m % 2 ^ 32 → u.audit.records ≡ (m + length l) % 2 ^ 32

module _ (t : Taken) (n : ℕ) (c : Content) (b : Beside) where
  abbrev before : Audit
  before = known_with t.audit b.waiting

  abbrev after : Act → Taken
  after a = act_done a before (here_of n c b) c.payload t.stores

  acted : (a : Act) → Does c a → (after a).audit.fault ≡ 0 → Step c t (after a) (act_gives a (after a).audit.state (after a).stores)
  unfolding audit_with
  acted act.Pass d f = absurd d
  acted act.Start d f = absurd d
  acted (act.Wrong k) d f = absurd (d f)
  acted (act.Feed e) d f =
      let s = t.audit.state in
      let x = t.stores in
      let y = frame_done s x (entry_with e c.payload) in
      record {
        state = ap (λ (l : List LogEntry). (frame_done s x l).state) d;
        stores = ap (λ (l : List LogEntry). (frame_done s x l).stores) d;
        given = gives e s x c.payload ∙ ap (λ (l : List LogEntry). frame_hands s x l) d;
        count = λ m h. counts e y.state y.stores m t.audit.records h;
      }

  step : (n ≡ 0 → ⊥) → length c.kind ≡ 4 → Octets c.kind → t.audit.fault ≡ 0 → (taken_next t n c b).audit.fault ≡ 0
      → Step c t (taken_next t n c b) (given_next t n c (taken_next t n c b))
  unfolding frame_taken audit_with
  step h four o z f =
      acted (act_for t.audit.fault n (letters_in c) c.payload)
      (subst (λ (k : ℕ). Does c (act_for k n (letters_in c) c.payload)) (sym z) (later-does c four o n h)) f

  -- no frame takes a fault back
  still : (taken_next t n c b).audit.fault ≡ 0 → t.audit.fault ≡ 0
  unfolding frame_taken act_for audit_with
  still f = go (eqb t.audit.fault 0) refl f
    where
      due : Act
      due = pick (eqb n 0) (first_act (letters_in c) c.payload) (later_act (letters_in c) (kind_read (letters_in c)) c.payload)

      go : (v : Bool) → eqb t.audit.fault 0 ≡ v → (after (pick v due act.Pass)).audit.fault ≡ 0 → t.audit.fault ≡ 0
      go true e h = eqb-true t.audit.fault 0 e
      go false e h = h

all-still : (b : ℕ → Beside) (n : ℕ) (t : Taken) (cs : List Content) → (frames_taken b n t cs).audit.fault ≡ 0 → t.audit.fault ≡ 0
all-still b n t [] f = f
all-still b n t (c ∷ cs) f = still t n c (b n) (all-still b (n + 1) (taken_next t n c (b n)) cs f)

-- ---- the frames behind the first

record Goes (cs : List Content) (t u : Taken) (l : List Handed) : Type 0 where
  state : u.audit.state ≡ (frames_done t.audit.state t.stores cs).state
  stores : u.stores ≡ (frames_done t.audit.state t.stores cs).stores
  given : l ≡ frames_hand t.audit.state t.stores cs
  count : (m : ℕ) → t.audit.records ≡ m % 2 ^ 32 → u.audit.records ≡ (m + length l) % 2 ^ 32

goes-more : (c : Content) (cs : List Content) (t u v : Taken) (k l : List Handed) → Step c t u k → Goes cs u v l → Goes (c ∷ cs) t v (k ++ l)
goes-more c cs t u v k l s g =
    record {
      state = g.state ∙ ap₂ (λ (y : State) (x : Stores). (frames_done y x cs).state) s.state s.stores;
      stores = g.stores ∙ ap₂ (λ (y : State) (x : Stores). (frames_done y x cs).stores) s.state s.stores;
      given = ap₂ (λ (i j : List Handed). i ++ j) s.given
          (g.given ∙ ap₂ (λ (y : State) (x : Stores). frames_hand y x cs) s.state s.stores);
      count = λ m h.
          let q : (m + length k) + length l ≡ m + length (k ++ l) = omega (arith, length-append k l) in
          g.count (m + length k) (s.count m h) ∙ ap (λ (i : ℕ). i % 2 ^ 32) q;
    }

goes : (b : ℕ → Beside) (n : ℕ) (t : Taken) (cs : List Content) → (n ≡ 0 → ⊥) → AllLettered cs → (frames_taken b n t cs).audit.fault ≡ 0
    → Goes cs t (frames_taken b n t cs) (frames_give b n t cs)
goes b n t [] h w f =
    record {
      state = refl;
      stores = refl;
      given = refl;
      count = λ m e. omega (arith, e);
    }
goes b n t (c ∷ cs) h w f =
    let u = taken_next t n c (b n) in
    let z : u.audit.fault ≡ 0 = all-still b (n + 1) u cs f in
    goes-more c cs t u (frames_taken b (n + 1) u cs) (given_next t n c u) (frames_give b (n + 1) u cs)
    (step t n c (b n) h w.0 w.1 (still t n c (b n) z) z) (goes b (n + 1) u cs (λ e. omega (arith, e)) w.2 f)

-- ---- the first frame

abbrev First : List ℕ → Act → Type 0
First p act.Pass = ⊥
First p act.Start = (settings_read p).limit ≤ 1048576
First p (act.Wrong f) = f ≡ 0 → ⊥
First p (act.Feed e) = ⊥

first_does : (l : ℕ) (p : List ℕ) → First p (act_for 0 0 l p)
unfolding act_for open_act
first_does l p = go (eqb l (kind_number kind.Open)) (eqb (four_at p 0) 0x4F425831) (ltb 1048576 (settings_read p).limit) refl
  where
    go : (a b d : Bool) → ltb 1048576 (settings_read p).limit ≡ d
        → First p (pick a (pick b (pick d (act.Wrong 2) act.Start) (act.Wrong 1)) (act.Wrong 1))
    go true true true e = λ z. omega (arith, z)
    go true true false e = ltb-false 1048576 (settings_read p).limit e
    go true false d e = λ z. omega (arith, z)
    go false b d e = λ z. omega (arith, z)

record Started (p : List ℕ) (x : Stores) (u : Taken) (l : List Handed) : Type 0 where
  state : u.audit.state ≡ fresh_state (settings_read p)
  stores : u.stores ≡ x
  records : u.audit.records ≡ 0
  given : l ≡ []
  limit : (settings_read p).limit ≤ 1048576

started_by_lem : (a : Act) (k : Audit) (h : Here) (p : List ℕ) (x : Stores) → First p a → (act_done a k h p x).audit.fault ≡ 0
    → Started p x (act_done a k h p x) (act_gives a (act_done a k h p x).audit.state (act_done a k h p x).stores)
unfolding audit_with
started_by_lem act.Pass k h p x d f = absurd d
started_by_lem act.Start k h p x d f = record { state = refl; stores = refl; records = refl; given = refl; limit = d }
started_by_lem (act.Wrong v) k h p x d f = absurd (d f)
started_by_lem (act.Feed e) k h p x d f = absurd d

starts : (a : Audit) (x : Stores) (c : Content) (b : Beside) → a.fault ≡ 0 → (taken_next (taken_as a x) 0 c b).audit.fault ≡ 0
    → Started c.payload x (taken_next (taken_as a x) 0 c b) (given_next (taken_as a x) 0 c (taken_next (taken_as a x) 0 c b))
unfolding frame_taken audit_with
starts a x c b z f =
    started_by_lem (act_for a.fault 0 (letters_in c) c.payload) (known_with a b.waiting) (here_of 0 c b) c.payload x
    (subst (λ (k : ℕ). First c.payload (act_for k 0 (letters_in c) c.payload)) (sym z) (first_does (letters_in c) c.payload)) f

pub taken-right : TakenRight
taken-right b a x c cs z w f =
    let t = taken_as a x in
    let u = taken_next t 0 c (b 0) in
    let l = frames_give b 1 u cs in
    let s = starts a x c (b 0) z (all-still b 1 u cs f) in
    let g = goes b 1 u cs (λ e. omega (arith, e)) w f in
    let q : 0 + length l ≡ length l = omega arith in
    record {
      state = g.state ∙ ap₂ (λ (y : State) (v : Stores). (frames_done y v cs).state) s.state s.stores;
      stores = g.stores ∙ ap₂ (λ (y : State) (v : Stores). (frames_done y v cs).stores) s.state s.stores;
      given = ap₂ (λ (i j : List Handed). i ++ j) s.given
          (g.given ∙ ap₂ (λ (y : State) (v : Stores). frames_hand y v cs) s.state s.stores);
      records = g.count 0 s.records ∙ ap (λ (i : ℕ). i % 2 ^ 32) q
          ∙ ap (λ (i : List Handed). length (i ++ l) % 2 ^ 32) (sym s.given);
    }

-- ---- the contents of a log's bytes

octets-take : (n : ℕ) (x : List ℕ) → Octets x → Octets (take n x)
octets-take n x o k = go (ltb k n) refl
  where
    go : (t : Bool) → ltb k n ≡ t → get_or (take n x) k 0 < 256
    go true e = rw (get_or-take n x k 0 (ltb-true k n e)) (o k)
    go false e =
        let l = length-take n x in
        rw (get_or-eq_default (take n x) 0 {n = k} (omega (arith, ltb-false k n e))) (omega arith)

octets-drop : (n : ℕ) (x : List ℕ) → Octets x → Octets (drop n x)
octets-drop n x o k = rw (get_or-drop n x k 0) (o (n + k))

abbrev AllSound : List Content → Type 0
AllSound [] = Unit {0}
AllSound (c ∷ cs) = (length c.kind ≡ 4) × Octets c.kind × Octets c.payload × AllSound cs

sound-from : (f : ℕ) (before : List ℕ) (n : ℕ) (x : List ℕ) → Octets x → AllSound (read_from f before n x).contents
unfolding read_from
sound-from zero before n x o = tt
sound-from (suc f) before n [] o = tt
sound-from (suc f) before n (a ∷ x) o =
    go (ltb (length y) 32) (ltb (length y) (check_at (size_in y) + 16)) (eqb (frame_fault before n y) 0) refl
    (sound-from f (check_in y) (n + 1) behind (octets-drop (check_at (size_in y) + 16) y o))
  where
    y : List ℕ
    y = a ∷ x

    behind : List ℕ
    behind = drop (check_at (size_in y) + 16) y

    rest : Log
    rest = read_from f (check_in y) (n + 1) behind

    go : (s t v : Bool) → ltb (length y) 32 ≡ s → AllSound rest.contents
        → AllSound (pick s (log [] 1) (pick t (log [] 1) (pick v (put_first (content_of y) rest) (log [] (frame_fault before n y))))).contents
    go true t v e w = tt
    go false true v e w = tt
    go false false false e w = tt
    go false false true e w = (
      length-take-le 4 y (omega (arith, ltb-false (length y) 32 e)),
      octets-take 4 y o,
      octets-take (size_in y) (drop 16 y) (octets-drop 16 y o),
      w,
    )

sound-log : (x : List ℕ) → Octets x → AllSound (read_log x).contents
unfolding read_log
sound-log x o = sound-from (length x + 1) [] 0 x o

all_lettered : (cs : List Content) → AllSound cs → AllLettered cs
all_lettered [] w = tt
all_lettered (c ∷ cs) w = (w.0, w.1, all_lettered cs w.3)

nine_octets : (a b c d e f g h i j : Bool) (p : List ℕ) (v : ℕ) (hs : List ℕ) (w : Bool) (ids : List ℕ) (es : List LogEntry)
    → Octets p → AllOctets es
    → AllOctets (pick a (received p ∷ []) (pick b (received p ∷ []) (pick c (sent v ∷ []) (pick d (answered v hs ∷ []) (pick e (object ∷ [])
    (pick f (checked w ∷ []) (pick g (nonce p ∷ []) (pick h (closed ids ∷ []) (pick i (pick j (ended ∷ []) []) [])))))))) ++ es)
nine_octets true b c d e f g h i j p v hs w ids es o r = (o, r)
nine_octets false true c d e f g h i j p v hs w ids es o r = (o, r)
nine_octets false false true d e f g h i j p v hs w ids es o r = r
nine_octets false false false true e f g h i j p v hs w ids es o r = r
nine_octets false false false false true f g h i j p v hs w ids es o r = r
nine_octets false false false false false true g h i j p v hs w ids es o r = r
nine_octets false false false false false false true h i j p v hs w ids es o r = r
nine_octets false false false false false false false true i j p v hs w ids es o r = r
nine_octets false false false false false false false false true true p v hs w ids es o r = r
nine_octets false false false false false false false false true false p v hs w ids es o r = r
nine_octets false false false false false false false false false j p v hs w ids es o r = r

entry-octets : (c : Content) (es : List LogEntry) → Octets c.payload → AllOctets es → AllOctets (entry_in c ++ es)
unfolding entry_in
entry-octets c es o r =
    let is : Kind → Bool = λ (k : Kind). same c.kind (letters_of k) in
    let p = c.payload in
    let b = get_or p 0 0 in
    nine_octets (is kind.Recv) (is kind.Part) (is kind.Sent) (is kind.Answ) (is kind.Objt) (is kind.Pass) (is kind.Nonc) (is kind.Clos)
    (is kind.Done) (eqb b 1 || eqb b 2) p b (drop 1 p) (eqb b 1) (ids_in p) es o r

all-octets : (cs : List Content) → AllSound cs → AllOctets (entries_in cs)
all-octets [] w = tt
all-octets (c ∷ cs) w = entry-octets c (entries_in cs) w.2 (all-octets cs w.3)

lent_less : (n m : ℕ) (x : Stores) → n ≤ m → Lent m x → Lent n x
lent_less n m x h r =
    record { packet = r.packet; headers = r.headers; body = omega (arith, h, r.body); tables = r.tables }

pub taken-audited : TakenAudited
taken-audited bytes b a x o r z f k = by (read_log bytes).contents refl (sound-log bytes o) f k
  where
    by : (l : List Content) → (read_log bytes).contents ≡ l → AllSound l → (frames_taken b 0 (taken_as a x) l).audit.fault ≡ 0
        → ((frames_taken b 0 (taken_as a x) l).audit.state.number ≡ 6 → ⊥) → frames_give b 0 (taken_as a x) l ≡ audited l
    by [] e w g n = refl
    by (c ∷ cs) e w g n =
        let u = taken_next (taken_as a x) 0 c (b 0) in
        let s = starts a x c (b 0) z (all-still b 1 u cs g) in
        let d = taken-right b a x c cs z (all_lettered cs w.3) g in
        d.given
        ∙ audit-right bytes c cs x e (lent_less (settings_read c.payload).limit 1048576 x s.limit r) (all-octets cs w.3)
        (λ q. n (ap (λ (y : State). y.number) d.state ∙ q))
        ∙ ap audited e
