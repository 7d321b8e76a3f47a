-- What a response leads to: each way of the code is the model's. Assumes nothing.
use mathlib.Core.Path.{◌≡◌, refl, sym, ap, ◌∙◌, subst}
use mathlib.Core.Bool.{Bool, true, false, ◌||◌, not}
use mathlib.Core.List.{List}
use mathlib.Core.Option.{Option, none, some}
use Prim.Native.Nat.{ℕ, ◌≤◌}
use native.Mathlib.Omega.{arith}
use lib.ListN.{take}
use lib.Dec.{eqb}
use Rattle.std.specs.Prelude.{Some, None}
use Rattle.base.specs.Pick.{pick}
use Rattle.packet.specs.HeaderIds as header_id
use Rattle.packet.specs.Header.{Header, first, read_headers}
use Rattle.packet.specs.HeaderList.{is_read, readable_from}
use Rattle.packet.specs.Packet.{connect_limit}
use Rattle.packet.specs.Codes.{is_success}
use Rattle.packet.specs.ResponsePacket.{ResponsePacket, response_packet}
use Rattle.packet.specs.PacketRead.{parse_response}
use Rattle.std.specs.Prelude.{Option as Maybe, Some, None}
use Rattle.packet.specs.declared.packet.Response.{Response}
use Rattle.packet.proofs.PacketLaws.{answer_with, response_head, Answers, response-head, response-readable}
use Rattle.journal.specs.Journal.{is_enable, list_of}
use Rattle.incoming.specs.Gather.{Gathering, gathering}
use Rattle.incoming.specs.Frame.{Frames, frames, framed}
use Rattle.incoming.specs.Survey.{survey_of, id_of, present}
use Rattle.incoming.specs.declared.survey.Survey.{Survey}
use Rattle.incoming.specs.declared.gather.Gathered.{Gathered}
use Rattle.incoming.specs.declared.frame.Frame.{Frame}
use Rattle.incoming.specs.declared.frame.Frame.TheVariants as frame
use Rattle.incoming.specs.declared.frame.Framed.{Framed}
use Rattle.outgoing.specs.declared.object.Outgoing.{Outgoing}
use Rattle.connection.specs.Peer.{at_least255, id_in, ConnectionId}
use Rattle.client_model.specs.declared.Kind.{Kind}
use Rattle.client_model.specs.declared.Kind.TheVariants as kind
use Rattle.client_model.specs.declared.Operation.{Operation}
use Rattle.client_model.specs.declared.Operation.TheVariants.{Nothing, Connecting, Disconnecting, Requesting, Receiving, Aborting}
use Rattle.client_model.specs.declared.Await.TheVariants as await
use Rattle.client_model.specs.declared.Client.{Client}
use Rattle.client_model.specs.declared.End.TheVariants as end
use Rattle.client_model.specs.declared.Outcome.TheVariants as outcome
use Rattle.client_model.specs.declared.CallResult.{CallResult}
use Rattle.client_model.specs.Step.{Stores, stores, with_packet, client_with, goes, begun_with, arrived, Done, Stepped, stepped, after, wants, over}
use Rattle.client_model.specs.Request.{requests_next, sends_abort}
use Rattle.client_model.specs.Answer.{grants, ended, gathers, parts, is_connecting, received_more, received_last, received, continued, request_answered, responded, read_as, response_done}
use Rattle.client_model.specs.Guard.{awaiting, sound_operation}
use Rattle.client_model.specs.Calls.{framed_as, offers, bytes_offered_step}
use Rattle.client.specs.Step.{took_by, with_taken}
use Rattle.client.specs.Answer.{id_found, heading_of, heading_from, ended_by, over_way, more_way, last_way, received_way, grants_by, continued_way, put_way, get_way, request_way, connected_by, way_of, part_took, acts_way}
use Rattle.client.specs.declared.answer.Heading.{Heading}
use Rattle.client.specs.declared.answer.Way.{Way}
use Rattle.client.specs.declared.answer.Way.TheVariants as way
use Rattle.client.proofs.Guards.{Goes, request-fits}

-- ---- the heading

id_first : (x : Option (List ℕ)) → pick (present x) (Some (id_of x)) None ≡ id_in x
id_first none = refl
id_first (some v) = refl

surveyed-id : (r : Option (List Header)) → id_found (survey_of r) ≡ id_in (first header_id.connection_id (list_of r))
unfolding survey_of first
surveyed-id none = refl
surveyed-id (some hs) = id_first (first header_id.connection_id hs)

surveyed-mode : (r : Option (List Header)) → (survey_of r).enable ≡ is_enable (first header_id.single_response_mode (list_of r))
unfolding survey_of first
surveyed-mode none = refl
surveyed-mode (some hs) = refl

pub heading-read : (code : ℕ) (p : List ℕ) (from : ℕ) (v : Survey) (i : ConnectionId) (l : ℕ) → v ≡ survey_of (read_headers p from) → i ≡ id_found v
    → l ≡ at_least255 (connect_limit p) → record { id = i; limit = l; code = code; enable = v.enable } ≡ heading_from code p from
unfolding heading_from
heading-read code p from v i l e f g =
    let a : i ≡ id_in (first header_id.connection_id (list_of (read_headers p from))) = f ∙ ap id_found e ∙ surveyed-id (read_headers p from) in
    let b : v.enable ≡ is_enable (first header_id.single_response_mode (list_of (read_headers p from))) =
    ap (λ (x : Survey). x.enable) e ∙ surveyed-mode (read_headers p from) in
    rw (a, g, b)

-- ---- the ways of a response

module _ (c : Client) (r : ResponsePacket) (s : Stores) where
  abbrev acts : Way → Stepped
  acts w = acts_way w c r.code r.headers s

  more-acts : (srm : Bool) → acts (more_way c srm) ≡ after 0 (received_more c srm r s)
  unfolding more_way
  more-acts srm = go c.aborting srm
    where
      go : (a b : Bool)
          → acts (pick a (pick b (way.Tell (took_by (goes c (Receiving true false 0) await.Bytes true) outcome.WantsBytes)) way.Abort)
          (way.Part srm false))
          ≡ after 0 (pick a (pick b (wants c (Receiving true false 0) true s) (sends_abort c s)) (parts c srm false r.code (gathers r s) s))
      go true true = refl
      go true false = refl
      go false b = refl

  last-acts : (srm : Bool) → acts (last_way c srm r.code) ≡ after 0 (received_last c srm r s)
  unfolding last_way
  last-acts srm = go (not (is_success r.code) || c.aborting)
    where
      go : (a : Bool) → acts (pick a (over_way c (ended_by c r.code)) (way.Part srm true))
          ≡ after 0 (pick a (over c (ended c r) s) (parts c srm true r.code (gathers r s) s))
      go true = refl
      go false = refl

  received-acts : (srm : Bool) → acts (received_way c srm r.code) ≡ after 0 (received c srm r s)
  unfolding received_way received
  received-acts srm = go (eqb r.code 0x10) refl
    where
      go : (t : Bool) → eqb r.code 0x10 ≡ t
          → acts (pick t (more_way c srm) (last_way c srm r.code)) ≡ after 0 (pick t (received_more c srm r s) (received_last c srm r s))
      go true e = more-acts srm
      go false e = last-acts srm

  continued-acts : (k : Kind) (o : Outgoing) (srm : Bool)
      → acts (continued_way k c o srm) ≡ after 0 (pick c.aborting (sends_abort c s) (requests_next c k srm false o s))
  unfolding continued_way
  continued-acts k o srm = go c.aborting
    where
      go : (a : Bool) → acts (pick a way.Abort (way.Next k o srm)) ≡ after 0 (pick a (sends_abort c s) (requests_next c k srm false o s))
      go true = refl
      go false = refl

  abbrev heading : Heading
  heading = heading_of r.code r.bytes r.headers

  request-acts : (k : Kind) (o : Outgoing) (srm initial last : Bool)
      → acts (request_way k c o srm initial last heading) ≡ after 0 (request_answered k c o srm initial last r s)
  unfolding put_way get_way
  request-acts kind.Put o srm initial true = refl
  request-acts kind.Put o srm initial false = go (eqb r.code 0x10)
    where
      go : (t : Bool) → acts (pick t (continued_way kind.Put c o (srm || grants c initial r)) (over_way c (outcome.Stopped r.code c.length)))
          ≡ after 0 (pick t (continued kind.Put c o srm initial r s) (over c (outcome.Stopped r.code c.length) s))
      go true = continued-acts kind.Put o (srm || grants c initial r)
      go false = refl
  request-acts kind.Get o srm initial true = received-acts (srm || grants c initial r)
  request-acts kind.Get o srm initial false = go (eqb r.code 0x10)
    where
      go : (t : Bool) → acts (pick t (continued_way kind.Get c o (srm || grants c initial r)) (last_way c srm r.code))
          ≡ after 0 (pick t (continued kind.Get c o srm initial r s) (received_last c srm r s))
      go true = continued-acts kind.Get o (srm || grants c initial r)
      go false = last-acts srm

  pub ways : (o : Operation) → acts (way_of o c heading) ≡ after 0 (responded o c r s)
  unfolding connected_by
  ways Connecting = refl
  ways Disconnecting = refl
  ways (Requesting k o h srm initial last) = request-acts k o srm initial last
  ways (Receiving srm last code) = received-acts srm
  ways Aborting = refl
  ways Nothing = refl

-- the headers of a request that goes on lie in the header store
abbrev pub WayFits : Way → Type 0
WayFits (way.Tell r) = Unit {0}
WayFits way.Abort = Unit {0}
WayFits (way.Next k o srm) = o.total ≤ 65535
WayFits (way.Part srm last) = Unit {0}

fits-pick : (t : Bool) (x y : Way) → WayFits x → WayFits y → WayFits (pick t x y)
fits-pick true x y a b = a
fits-pick false x y a b = b

module _ (c : Client) (h : Heading) where
  last_fits : (srm : Bool) → WayFits (last_way c srm h.code)
  unfolding last_way
  last_fits srm = fits-pick (not (is_success h.code) || c.aborting) _ _ tt tt

  more-fits : (srm : Bool) → WayFits (more_way c srm)
  unfolding more_way
  more-fits srm = fits-pick c.aborting _ _ (fits-pick srm _ _ tt tt) tt

  received-fits : (srm : Bool) → WayFits (received_way c srm h.code)
  unfolding received_way
  received-fits srm = fits-pick (eqb h.code 0x10) _ _ (more-fits srm) (last_fits srm)

  continued-fits : (k : Kind) (o : Outgoing) (srm : Bool) → o.total ≤ 65535 → WayFits (continued_way k c o srm)
  unfolding continued_way
  continued-fits k o srm e = fits-pick c.aborting _ _ tt e

  request-fit : (k : Kind) (o : Outgoing) (srm initial last : Bool) → o.total ≤ 65535 → WayFits (request_way k c o srm initial last h)
  unfolding put_way get_way
  request-fit kind.Put o srm initial last e =
      fits-pick last _ _ tt (fits-pick (eqb h.code 0x10) _ _ (continued-fits kind.Put o (srm || grants_by c initial h.enable) e) tt)
  request-fit kind.Get o srm initial last e =
      fits-pick last _ _ (received-fits (srm || grants_by c initial h.enable))
      (fits-pick (eqb h.code 0x10) _ _ (continued-fits kind.Get o (srm || grants_by c initial h.enable) e) (last_fits srm))

  way-fits : (o : Operation) → sound_operation o ≡ true → WayFits (way_of o c h)
  way-fits Connecting e = tt
  way-fits Disconnecting e = tt
  way-fits (Requesting k o x srm initial last) e = request-fit k o srm initial last (request-fits o x e).total
  way-fits (Receiving srm last code) e = received-fits srm
  way-fits Aborting e = tt
  way-fits Nothing e = tt

  pub way-total : (o : Operation) (w : Way) (k : Kind) (g : Outgoing) (srm : Bool) → w ≡ way_of o c h → w ≡ way.Next k g srm
      → sound_operation o ≡ true → g.total ≤ 65535
  way-total o w k g srm e i q = subst WayFits (sym e ∙ i) (way-fits o q)

  -- the code goes the way that it has found
  pub by_way : (o : Operation) (code : ℕ) (hs : List Header) (s : Stores) (w u : Way) (x : Stepped) → w ≡ way_of o c h → w ≡ u
      → x ≡ acts_way u c code hs s → x ≡ acts_way (way_of o c h) c code hs s
  by_way o code hs s w u x e i k = k ∙ ap (λ (v : Way). acts_way v c code hs s) (sym i ∙ e)

pub part-call : (c : Client) (srm last : Bool) (code : ℕ) (g : Gathered) (q h b y h₁ b₁ : List ℕ) (G : Gathering) (r : CallResult)
    → r ≡ part_took c srm last code g → gathering g h₁ b₁ ≡ G → stepped r (stores q h₁ b₁ y) ≡ after 0 (parts c srm last code G (stores q h b y))
part-call c srm last code g q h b y h₁ b₁ G r e i =
    ap (λ (x : CallResult). stepped x (stores q h₁ b₁ y)) e
    ∙ ap (λ (G : Gathering). stepped (part_took c srm last code G.got) (stores q G.headers G.body y)) i

-- ---- a whole response

pub arrived-operation : (c a : Client) (n : ℕ) → a ≡ arrived c n → a.operation ≡ c.operation
unfolding client_with
arrived-operation c a n e = ap (λ (x : Client). x.operation) e

pub arrived-remote : (c a : Client) (n : ℕ) → a ≡ arrived c n → a.remote_max_packet_length ≡ c.remote_max_packet_length
unfolding client_with
arrived-remote c a n e = ap (λ (x : Client). x.remote_max_packet_length) e

listed : (code : ℕ) (f : Bool) (p : List ℕ) (x : Option (List Header)) → is_read x ≡ true
    → answer_with code f p x ≡ some (record { code = code; final = f; bytes = p; headers = list_of x })
listed code f p none e = absurd (let z : ◌≡◌ {A = ℕ} 0 1 = cc in omega arith)
listed code f p (some hs) e = refl

module _ (c : Client) (n : ℕ) (s : Stores) (t : Bool) (is : t ≡ is_connecting c.operation) (x : Maybe Response)
    (read : x ≡ parse_response t (take n s.packet)) (a : Client) (at : a ≡ arrived c n) where
  abbrev p : List ℕ
  p = take n s.packet

  packet-is : response_packet (is_connecting c.operation) p ≡ response_head x p
  packet-is =
      ap (λ (u : Bool). response_packet u p) (sym is) ∙ response-head t p ∙ ap (λ (y : Maybe Response). response_head y p) (sym read)

  pub unreadable : (r : CallResult) → x ≡ None → r ≡ took_by (goes a Nothing await.Nothing false) (outcome.End end.Unreadable)
      → stepped r s ≡ after 0 (response_done c n s)
  unfolding response_done
  unreadable r e h =
      ap (λ (y : CallResult). stepped y s) h
      ∙ ap (λ (z : Client). stepped (took_by (goes z Nothing await.Nothing false) (outcome.End end.Unreadable)) s) at
      ∙ ap (λ (y : Option ResponsePacket). after 0 (read_as y (arrived c n) s)) (sym (packet-is ∙ ap (λ (y : Maybe Response). response_head y p) e))

  module _ (d : Response) (e : x ≡ Some d) where
    abbrev code : ℕ
    code = d.code

    abbrev f : Bool
    f = d.is_final

    abbrev from : ℕ
    from = d.headers

    pub reads : readable_from p from ≡ true
    reads = (subst (λ (y : Maybe Response). Answers y t p) (sym read ∙ e) (response-readable t p)).0

    abbrev told : ResponsePacket
    told = record { code = code; final = f; bytes = p; headers = list_of (read_headers p from) }

    pub answered : (h : Heading) (u : Stepped) → h ≡ heading_from code p from
        → u ≡ acts_way (way_of a.operation a h) a h.code (list_of (read_headers p from)) s → u ≡ after 0 (response_done c n s)
    unfolding response_done heading_from
    answered h u i w =
        w
        ∙ ap (λ (h : Heading). acts_way (way_of a.operation a h) a h.code (list_of (read_headers p from)) s) i
        ∙ ways a told s a.operation
        ∙ ap (λ (z : Client). after 0 (responded z.operation z told s)) at
        ∙ ap (λ (y : Option ResponsePacket). after 0 (read_as y (arrived c n) s))
        (sym (packet-is ∙ ap (λ (y : Maybe Response). response_head y p) e ∙ listed code f p (read_headers p from) reads))

-- ---- bytes that are offered

pub taken-after : (r w : CallResult) (n : ℕ) (s : Stores) (d : Done) → w ≡ with_taken r n → stepped r s ≡ after 0 d → stepped w s ≡ after n d
taken-after r w n s d e h =
    ap (λ (x : CallResult). stepped x s) e ∙ ap (λ (z : Stepped). stepped (with_taken z.took n) z.stores) h

pub framed-call : (c : Client) (s : Stores) (i : List ℕ) (r : Framed) (p : List ℕ) (x : Frame) (d : Stepped) → Goes (awaiting c await.Bytes) c s
    → frames r p ≡ framed s.packet c.begun 0 i → r.frame ≡ x → d ≡ framed_as x c r.begun r.taken (with_packet s p)
    → d ≡ bytes_offered_step c i s
unfolding bytes_offered_step
framed-call c s i r p x d g e k h =
    h ∙ ap (λ (y : Frame). framed_as y c r.begun r.taken (with_packet s p)) (sym k) ∙ ap (λ (f : Frames). offers c f s) e
    ∙ sym (g.whole (offers c (framed s.packet c.begun 0 i) s))

-- a response that is not whole, and one whose length field is too small
pub more-call : (c z : Client) (b n : ℕ) (s : Stores) (r w : CallResult) → w ≡ with_taken r n → r ≡ took_by z outcome.WantsBytes → z ≡ begun_with c b
    → stepped w s ≡ framed_as frame.More c b n s
more-call c z b n s r w e h i =
    ap (λ (x : CallResult). stepped x s)
    (e ∙ ap (λ (x : CallResult). with_taken x n) h ∙ ap (λ (x : Client). with_taken (took_by x outcome.WantsBytes) n) i)

pub short-call : (c : Client) (b n : ℕ) (s : Stores) (r w : CallResult) → w ≡ with_taken r n
    → r ≡ took_by (goes c Nothing await.Nothing false) (outcome.End end.LengthTooSmall) → stepped w s ≡ framed_as frame.Short c b n s
short-call c b n s r w e h = ap (λ (x : CallResult). stepped x s) (e ∙ ap (λ (x : CallResult). with_taken x n) h)
