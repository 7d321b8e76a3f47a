-- A readable Put packet at a server, by what is open: what it makes of the packet, in terms of the record that the packets have carried so far.
-- Assumes nothing.
use mathlib.Core.Path.{◌≡◌, refl, sym, ap₂, subst, ◌∙◌}
use mathlib.Core.List.{List, [], ◌∷◌, ◌++◌}
use mathlib.Core.Bool.{Bool, true, false, ◌&&◌, not}
use mathlib.Core.Option.{Option, none, some}
use Prim.Native.Nat.{ℕ, ◌≤◌, ◌<◌}
use lib.ListN.{length, take}
use lib.Dec.{ltb, eqb}
use borrow.Author.Tests.{ltb-true, ltb-false}
use Rattle.std.specs.Prelude.{Some, None}
use Rattle.base.specs.Pick.{pick}
use Rattle.packet.specs.FirstByte.{same_opcode}
use Rattle.packet.specs.Codes.{codes, is_code, is_success}
use Rattle.packet.specs.Packet.{Request as Packet}
use Rattle.packet.specs.declared.opcode.Opcode.TheVariants as op
use Rattle.journal.specs.Record.{Record, joined, size_of, carried_by}
use Rattle.incoming.specs.Gather.{Gathering, gathering as gatheringOf}
use Rattle.incoming.specs.Survey.{survey_of}
use Rattle.incoming.specs.declared.survey.Survey.{Survey}
use Rattle.incoming.specs.declared.gather.Keep.TheVariants as keep
use Rattle.incoming.specs.declared.gather.Gathered.{Gathered}
use Rattle.incoming.proofs.Gathers.{PutAgrees, put-agrees, put_full, gather_lengths}
use Rattle.model.specs.Step.{Stores, with_gathered, Done, wants, asks, ends, replies_code, continues, limit_of}
use Rattle.model.specs.Operation.{nothing_gathered, put_body, overrun, put_gathered, put_packet, gathers}
use Rattle.model.specs.Dispatch.{Rejection, admits, rejects, known_in, rejection, confirms, dispatch, trails, trailed, inside, busy, read_as}
use Rattle.model.specs.Runs.{body_in, handed_by}
use Rattle.server.specs.declared.Operation.{Operation}
use Rattle.server.specs.declared.Operation.TheVariants.{Nothing, Trailing, Putting, Getting, Sending, Gathering as GatheringOp, Connecting, Draining}
use Rattle.server.specs.declared.Await.TheVariants as await
use Rattle.server.specs.declared.End.TheVariants as end
use Rattle.server.specs.declared.Engine.{Engine}
use Rattle.server.specs.declared.HostRequest.TheVariants as request
use Rattle.model.proofs.Fit.{Room}

-- ---- a packet of a Put that is gathered

-- What becomes of it: `c` is what the packets have carried with this one, `x` what is gathered with it.
pub data PutDid (e : Engine) (s : Stores) (r : Packet) (v : Survey) (srm confirm : Bool) (c : Record) (x : Gathering) (d : Done) : Type 0 where
  -- the kept headers are over 65,535 bytes: the engine ends
  full : 65535 < length c.headers → d ≡ ends e e.peer end.HeadersTooLarge (with_gathered s x) → PutDid e s r v srm confirm c x d
  -- the final packet of a body within the limit: the host gets the record
  hands : r.final ≡ true → size_of c ≤ limit_of e → PutAgrees (limit_of e) x c
      → d ≡ asks e e.peer Nothing await.Reply (request.Put x.got.kept (put_body x.got)) (with_gathered s x)
      → handed_by (request.Put x.got.kept (put_body x.got)) (with_gathered s x) ≡ c ∷ [] → PutDid e s r v srm confirm c x d
  -- the final packet of a body past the limit
  past : r.final ≡ true → limit_of e < size_of c → d ≡ replies_code e e.peer Nothing 0x4D (with_gathered s x) → PutDid e s r v srm confirm c x d
  -- past the limit before the final packet, if the client waits
  stops : r.final ≡ false → srm ≡ false → limit_of e < size_of c → d ≡ replies_code e e.peer (overrun e.settings) 0x4D (with_gathered s x)
      → PutDid e s r v srm confirm c x d
  -- the Put goes on, and the client waits for the word
  goes_on : r.final ≡ false → srm ≡ false → size_of c ≤ limit_of e → PutAgrees (limit_of e) x c
      → d ≡ continues e (Putting x.got confirm) confirm (with_gathered s x) → PutDid e s r v srm confirm c x d
  -- it goes on under Single Response Mode, with a Continue if the client asks for one
  speaks : r.final ≡ false → srm ≡ true → v.additional ≡ true → PutAgrees (limit_of e) x c
      → d ≡ continues e (Putting x.got true) false (with_gathered s x) → PutDid e s r v srm confirm c x d
  silent : r.final ≡ false → srm ≡ true → v.additional ≡ false → PutAgrees (limit_of e) x c
      → d ≡ wants e e.peer (Putting x.got true) (with_gathered s x) → PutDid e s r v srm confirm c x d

-- the body that a Put request hands over
body-handed : (g : Gathered) (b : List ℕ) → body_in (put_body g) b ≡ pick g.came (some (take g.body b)) none
body-handed g b = go g.came
  where
    go : (t : Bool) → body_in (pick t (Some g.body) None) b ≡ pick t (some (take g.body b)) none
    go true = refl
    go false = refl

module _ (e : Engine) (s : Stores) (r : Packet) (v : Survey) (srm confirm : Bool) where
  -- what was gathered is what was carried
  gathered_did : (x : Gathering) (c : Record) → PutAgrees (limit_of e) x c
      → (t u : Bool) → r.final ≡ t → x.got.over ≡ u → PutDid e s r v srm confirm c x (put_gathered e r v srm confirm x s)
  gathered_did x c w true true f i = past f (ltb-true _ _ (sym w.over ∙ i)) (rw (w.full, f, i))
  gathered_did x c w true false f i =
      hands f (ltb-false _ _ (sym w.over ∙ i)) w (rw (w.full, f, i))
      (ap₂ (λ (h : List ℕ) (b : Option (List ℕ)). record { headers = h; body = b } ∷ []) (sym w.headers)
      (body-handed x.got x.body ∙ sym (w.body i).1))
  gathered_did x c w false u f i = by srm refl v.additional refl u i
    where
      by : (m : Bool) → srm ≡ m → (a : Bool) → v.additional ≡ a → (u : Bool) → x.got.over ≡ u
          → PutDid e s r v srm confirm c x (put_gathered e r v srm confirm x s)
      by true q true k u i = speaks f q k w (rw (w.full, f, q, k))
      by true q false k u i = silent f q k w (rw (w.full, f, q, k))
      by false q a k true i = stops f q (ltb-true _ _ (sym w.over ∙ i)) (rw (w.full, f, q, i))
      by false q a k false i = goes_on f q (ltb-false _ _ (sym w.over ∙ i)) w (rw (w.full, f, q, i))

  pub server-put : (g : Gathered) (c : Record) → PutAgrees (limit_of e) (gatheringOf g s.headers s.body) c
      → PutDid e s r v srm confirm (joined c (carried_by r.headers)) (gathers e keep.Put r.headers g s) (put_packet e r v srm confirm g s)
  unfolding put_packet
  server-put g c w = go (ltb 65535 (length (c.headers ++ (carried_by r.headers).headers))) refl
    where
      go : (t : Bool) → ltb 65535 (length (c.headers ++ (carried_by r.headers).headers)) ≡ t
          → PutDid e s r v srm confirm (joined c (carried_by r.headers)) (gathers e keep.Put r.headers g s) (put_packet e r v srm confirm g s)
      go true i =
          let l = ltb-true _ _ i in
          full l (rw (put_full (limit_of e) r.headers (gatheringOf g s.headers s.body) c w l) refl)
      go false i =
          gathered_did (gathers e keep.Put r.headers g s) (joined c (carried_by r.headers))
          (put-agrees (limit_of e) r.headers (gatheringOf g s.headers s.body) c w (ltb-false _ _ i)) r.final
          (gathers e keep.Put r.headers g s).got.over refl refl

-- the stores have room with what was gathered
pub gathered_room : (e : Engine) (s : Stores) (r : Packet) (g : Gathered) (c : Record) → Room (limit_of e) s
    → PutAgrees (limit_of e) (gatheringOf g s.headers s.body) c → Room (limit_of e) (with_gathered s (gathers e keep.Put r.headers g s))
gathered_room e s r g c h w =
    let l = gather_lengths keep.Put (limit_of e) r.headers (gatheringOf g s.headers s.body) w.kept-room w.body-within w.room w.body-room in
    record { packet = h.packet; headers = rw l.0 h.headers; reply = h.reply; body = rw l.1 h.body }

-- ---- by what is open

-- a code that refuses
pub record Refuses (code : ℕ) : Type 0 where
  pub is_code_lem : is_code code ≡ true
  pub fails : is_success code ≡ false
  pub final : eqb code 0x10 ≡ false

-- the engine admits the packet
abbrev pub is_admits : Rejection → Bool
is_admits admits = true
is_admits (rejects code) = false

abbrev pub is_trailing : Operation → Bool
is_trailing Trailing = true
is_trailing Nothing = false
is_trailing (Putting g srm) = false
is_trailing (Getting g srm confirm wait) = false
is_trailing (Sending o c srm wait) = false
is_trailing (GatheringOp o g) = false
is_trailing (Connecting c f n) = false
is_trailing (Draining code) = false

-- the first packet of a Put passes, if `o` is open: it is admitted, and trails no Put that was too long
abbrev pub put_passes : Operation → Engine → Packet → Survey → Bool → Bool
put_passes o e r v known = is_admits (rejection e r.opcode v known) && not (is_trailing o && trails r)

-- the first packet of a Put: it is turned away, and nothing is gathered, or it is gathered as the first; `p` says that it passes
pub data Begins (p : Bool) (e : Engine) (s : Stores) (r : Packet) (v : Survey) (d : Done) : Type 0 where
  turned : p ≡ false → (code : ℕ) (o : Operation) → Refuses code → busy o ≡ false → d ≡ replies_code e e.peer o code s → Begins p e s r v d
  gathered : p ≡ true → d ≡ put_packet e r v e.peer.srm_enabled (confirms e v) nothing_gathered s → Begins p e s r v d

module _ (e : Engine) (s : Stores) (r : Packet) (v : Survey) (known : Bool) (p : r.opcode ≡ op.Put) (q : e.peer.srm_enabled ≡ false) where
  -- not admitted, or gathered; behind a Put that was too long it has a Name
  admitted-begins : (o : Operation) → (is_trailing o && trails r) ≡ false
      → (t u : Bool) → e.settings.authentication && (not e.peer.authenticated && not (same_opcode op.Put op.Disconnect)) ≡ t
      → (v.has_id && not known) ≡ u → Begins (put_passes o e r v known) e s r v (dispatch e r v known s)
  unfolding dispatch rejection same_opcode is_code codes is_success
  admitted-begins o n true u a b = turned (rw (p, a)) 0x41 Nothing (record { is_code_lem = refl; fails = refl; final = refl }) refl (rw (p, a, q))
  admitted-begins o n false true a b = turned (rw (p, a, b)) 0x53 Nothing (record { is_code_lem = refl; fails = refl; final = refl }) refl (rw (p, a, b, q))
  admitted-begins o n false false a b = gathered (rw n (rw (p, a, b))) (rw (p, a, b))

  dispatch-begins : (o : Operation) → (is_trailing o && trails r) ≡ false → Begins (put_passes o e r v known) e s r v (dispatch e r v known s)
  dispatch-begins o n = admitted-begins o n _ _ refl refl

  trailing-begins : (t : Bool) → trails r ≡ t → Begins (put_passes Trailing e r v known) e s r v (inside Trailing e r v known s)
  unfolding is_code codes is_success
  trailing-begins true i =
      turned (rw i (and_false (is_admits (rejection e r.opcode v known)))) 0x4D (pick r.final Nothing Trailing)
      (record { is_code_lem = refl; fails = refl; final = refl }) (idle r.final) (rw i)
    where
      idle : (t : Bool) → busy (pick t Nothing Trailing) ≡ false
      idle true = refl
      idle false = refl

      and_false : (t : Bool) → (t && false) ≡ false
      and_false true = refl
      and_false false = refl
  trailing-begins false i =
      subst (λ (t : Bool). Begins (put_passes Trailing e r v known) e s r v (pick t (trailed e r s) (dispatch e r v known s))) (sym i) (dispatch-begins Trailing i)

  -- nothing is open, or what trails a Put is refused
  pub first-put : (o : Operation) → busy o ≡ false → Begins (put_passes o e r v known) e s r v (inside o e r v known s)
  first-put Nothing b = dispatch-begins Nothing refl
  first-put Trailing b = trailing-begins (trails r) refl
  first-put (Putting g srm) b = absurd (mathlib.Core.Bool.true≢false b)
  first-put (Getting g srm confirm wait) b = absurd (mathlib.Core.Bool.true≢false b)
  first-put (Sending o c srm wait) b = absurd (mathlib.Core.Bool.true≢false b)
  first-put (GatheringOp o g) b = absurd (mathlib.Core.Bool.true≢false b)
  first-put (Connecting c f n) b = absurd (mathlib.Core.Bool.true≢false b)
  first-put (Draining code) b = absurd (mathlib.Core.Bool.true≢false b)

-- a packet of a Put that is open
pub next-put : (e : Engine) (s : Stores) (r : Packet) (v : Survey) (known : Bool) (g : Gathered) (srm : Bool) → r.opcode ≡ op.Put
    → inside (Putting g srm) e r v known s ≡ put_packet e r v srm false g s
unfolding same_opcode
next-put e s r v known g srm p = rw p

-- a Put packet is no Abort
pub put-read : (e : Engine) (q : List ℕ) (s : Stores) (t : List ℕ) (r : Packet) → r.opcode ≡ op.Put
    → read_as (some r) e q s t ≡ inside e.operation e r (survey_of (some r.headers)) (known_in e t (survey_of (some r.headers))) s
unfolding same_opcode
put-read e q s t r p = rw p

-- an Abort, whatever is open: the host hears of it, and nothing is open any more
pub server_abort : (e : Engine) (q : List ℕ) (s : Stores) (t : List ℕ) (r : Packet) → r.opcode ≡ op.Abort
    → read_as (some r) e q s t ≡ asks e e.peer Nothing await.Acknowledgement (request.Abort e.length) s
unfolding same_opcode
server_abort e q s t r p = rw p
