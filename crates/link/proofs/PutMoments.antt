-- What holds at each moment of a Put, in whatever phase: what the client is about, what the server awaits, which packets come to it, and that a
-- packet that waits is of bytes and within the server's limit. Assumes nothing.
use mathlib.Core.Path.{◌≡◌, refl, sym, ap, subst, ◌∙◌}
use mathlib.Core.List.{List, [], ◌∷◌, ◌++◌, append-nil}
use mathlib.Core.Bool.{Bool, true, false, false≢true}
use mathlib.Core.Option.{some}
use mathlib.Core.Logic.{◌⊎◌, inl, inr}
use Prim.Native.Nat.{ℕ, zero, suc, ◌+◌, ◌≤◌}
use native.Mathlib.Omega.{arith}
use lib.ListN.{length, take}
use Rattle.base.specs.Pick.{pick}
use Rattle.text.specs.Unicode.{Octets}
use Rattle.packet.specs.FirstByte.{byte_of}
use Rattle.packet.specs.Packet.{Request as Packet, packet_bytes, request_of}
use Rattle.packet.specs.declared.opcode.Opcode.TheVariants as op
use Rattle.incoming.specs.Frame.{Frames, frames, framed}
use Rattle.incoming.specs.declared.frame.Frame.TheVariants.{More as MoreBytes, Whole}
use Rattle.incoming.proofs.Queued.{Came, goes as stillGoes, comes, queued}
use Rattle.server.specs.declared.Await.{Await as ServerAwait}
use Rattle.server.specs.declared.Await.TheVariants as waits
use Rattle.server.specs.declared.CallKind.TheVariants as kind
use Rattle.model.specs.Guard.{fits}
use Rattle.outgoing.specs.declared.object.Outgoing.{Outgoing}
use Rattle.outgoing.specs.declared.object.Chunk.{Chunk}
use Rattle.client_model.specs.Leading.{leading}
use Rattle.client_model.specs.Numbers.{same_await}
use Rattle.client_model.specs.Guard.{awaiting}
use Rattle.client_model.specs.declared.Kind.TheVariants as kinds
use Rattle.client_model.specs.declared.Operation.{Operation}
use Rattle.client_model.specs.declared.Operation.TheVariants.{Requesting, Aborting}
use Rattle.client_model.specs.declared.Await.{Await}
use Rattle.client_model.specs.declared.Await.TheVariants as await
use Rattle.client_model.specs.declared.Outcome.TheVariants as said
use Rattle.client_model.proofs.Sending.{lead-small}
use Rattle.client_model.proofs.Putting.{goes_up}
use Rattle.link.specs.Link.{Link, connect, get, disconnect, put as putCall, body, abort, partTaken, Move, user, host, sendUp, sendDown, offerUp, offerDown, closeUp, closeDown}
use Rattle.link.specs.Told as shown
use Rattle.link.specs.Claims.{PlainMove}
use Rattle.link.proofs.Moves.{Heard, heard_after}
use Rattle.link.proofs.Joint.{Deal, Mode, sends, reads, aborts, aborted, awaits, Post, put, cancel, wire, wires, Good, AllGood, Under, Client', Joint, going, at_host, at_abort, replied, coming, ended}
use Rattle.link.proofs.PutOctets.{octets-append, sent-octets, abort_octets}

-- ---- the client

-- what it does, in any phase
pub record ClientIn (g : Deal) (ab : Bool) (h : Heard) (l : Link) : Type 0 where
  pub mode : Mode
  pub srm : Bool
  pub sent : List (List ℕ)
  pub stands : Client' g mode srm sent ab h l

pub client_in : (g : Deal) (ab : Bool) (h : Heard) (l : Link) → Joint g ab h l → ClientIn g ab h l
client_in g ab h l (going mode srm sent xs ps w b hold good order v a t ga under dn hr ha) = record
    { mode = mode; srm = srm; sent = sent; stands = w }
client_in g ab h l (at_host srm initial sent xs r w b hold v a t up dn hr ha gave) = record
    { mode = awaits true initial; srm = srm; sent = sent; stands = w }
client_in g ab h l (at_abort srm sent r w b v a t up dn hr ha) = record { mode = aborted; srm = srm; sent = sent; stands = w }
client_in g ab h l (replied mode srm sent xs y code w b hold y' mean v a z t r up dn) = record { mode = mode; srm = srm; sent = sent; stands = w }
client_in g ab h l (coming mode srm sent xs y code w hold y' mean v a z t up half hl) = record { mode = mode; srm = srm; sent = sent; stands = w }
client_in g ab h l (ended mode srm sent xs x w b hold same a t is dn left fails) = record { mode = mode; srm = srm; sent = sent; stands = w }

-- its operation is the Put, or the Abort of it
pub data InPut (o : Operation) : Type 0 where
  in_put : (x : Outgoing) (y : Chunk) (srm initial last : Bool) → o ≡ Requesting kinds.Put x y srm initial last → InPut o
  in_abort : o ≡ Aborting → InPut o

module _ (g : Deal) (ab : Bool) (h : Heard) (l : Link) where
  stands_in : (mode : Mode) (srm : Bool) (sent : List (List ℕ)) → Client' g mode srm sent ab h l
      → (awaiting l.client await.Call ≡ false) × InPut l.client.operation
  stands_in sends srm sent w =
      let a = w.waits in (
        ap (λ (x : Await). same_await x await.Call) a.awaits,
        in_put a.made.packet.outgoing a.made.packet.chunk srm a.initial a.last
            a.operation,
      )
  stands_in reads srm sent w =
      let a = w.asks in (
        ap (λ (x : Await). same_await x await.Call) a.awaits,
        in_put a.made.packet.outgoing a.made.packet.chunk srm a.initial false
            a.operation,
      )
  stands_in (awaits true initial) srm sent w =
      let a = w.answered in (ap (λ (x : Await). same_await x await.Call) w.awaits, in_put a.outgoing a.chunk srm initial true a.operation)
  stands_in (awaits false initial) srm sent w =
      let r = w.answered.rest in (
        ap (λ (x : Await). same_await x await.Call) w.awaits,
        in_put r.outgoing r.chunk false initial false
            w.answered.operation,
      )
  stands_in aborts srm sent w = (ap (λ (x : Await). same_await x await.Call) w.awaits, in_abort w.operation)
  stands_in aborted srm sent w = (ap (λ (x : Await). same_await x await.Call) w.awaits, in_abort w.operation)

  pub put-busy : Joint g ab h l → (awaiting l.client await.Call ≡ false) × InPut l.client.operation
  put-busy w = let c = client_in g ab h l w in stands_in c.mode c.srm c.sent c.stands

  -- ---- the packet that waits

  -- it is of bytes, if those given are, and within the server's limit
  abbrev Fine : ℕ → Type 0
  Fine n = (Octets h.given → Octets (take n l.stores.request)) × (length (take n l.stores.request) ≤ 3 + g.job.capacity)

  stands-fine : (mode : Mode) (srm : Bool) (sent : List (List ℕ)) → Client' g mode srm sent ab h l → (n : ℕ) → l.said ≡ said.Send n → Fine n
  unfolding packet_bytes
  stands-fine sends srm sent w n e =
      let a = w.waits in
      let k = w.keeps in
      let i : said.Send a.size ≡ said.Send n = sym a.said ∙ e in
      let z : a.size ≡ n = cc in
      subst Fine z
      (subst (λ (q : List ℕ). (Octets h.given → Octets (take a.size q)) × (length (take a.size q) ≤ 3 + g.job.capacity))
      (sym a.request) (
        sent-octets g.job srm sent h.given l.client l.said l.stores k a,
        (goes_up g.job srm sent h.given l.client l.said l.stores k a).1.fits,
      ))
  stands-fine reads srm sent w n e =
      let i : said.Read w.asks.made.packet.chunk.room ≡ said.Send n = sym w.asks.said ∙ e in
      let z : ◌≡◌ {A = ℕ} 0 1 = cc in absurd (omega arith)
  stands-fine (awaits last initial) srm sent w n e =
      let i : said.WantsBytes ≡ said.Send n = sym w.said ∙ e in let z : ◌≡◌ {A = ℕ} 0 1 = cc in absurd (omega arith)
  stands-fine aborts srm sent w n e =
      let q = packet_bytes (byte_of op.Abort true) [] (leading g.job.id false) in
      let i : said.Send (length q) ≡ said.Send n = sym w.said ∙ e in
      let z : length q ≡ n = cc in
      subst Fine z
      (subst (λ (x : List ℕ). (Octets h.given → Octets x) × (length x ≤ 3 + g.job.capacity)) (sym w.request)
      ((λ o. abort_octets g.job.id), omega (arith, lead-small g.job.id false, g.job.low)))
  stands-fine aborted srm sent w n e =
      let i : said.WantsBytes ≡ said.Send n = sym w.said ∙ e in let z : ◌≡◌ {A = ℕ} 0 1 = cc in absurd (omega arith)

  pub put-fine : Joint g ab h l → (n : ℕ) → l.said ≡ said.Send n
      → (Octets h.given → Octets (take n l.stores.request)) × (length (take n l.stores.request) ≤ 3 + g.job.capacity)
  put-fine w n e = let c = client_in g ab h l w in stands-fine c.mode c.srm c.sent c.stands n e

-- the bytes that are given are bytes
pub given-octets : (h : Heard) (l : Link) (m : Move) → Octets h.given → PlainMove m → Octets (heard_after h l m).given
given-octets h l m o pl = by m pl
  where
    none_more : Octets (h.given ++ [])
    none_more = subst Octets (sym (append-nil h.given)) o

    picked : (t : Bool) (d : List ℕ) → Octets d → Octets (h.given ++ pick t d [])
    picked true d q = octets-append h.given d o q
    picked false d q = none_more

    by : (m : Move) → PlainMove m → Octets (heard_after h l m).given
    by (user (connect hs)) pl = none_more
    by (user (get hs)) pl = none_more
    by (user (disconnect hs)) pl = none_more
    by (user (putCall hs has)) pl = none_more
    by (user (body d)) pl = picked (shown.goes l (body d)) d pl
    by (user abort) pl = none_more
    by (user partTaken) pl = none_more
    by (host c) pl = none_more
    by sendUp pl = none_more
    by sendDown pl = none_more
    by (offerUp n) pl = none_more
    by (offerDown n) pl = none_more
    by closeUp pl = none_more
    by closeDown pl = none_more

-- ---- the server

-- what it awaits
pub data PutWait (a : ServerAwait) : Type 0 where
  for_bytes : a ≡ waits.Bytes → PutWait a
  for_taken : a ≡ waits.Taken → PutWait a
  for_reply : a ≡ waits.Reply → PutWait a
  for_abort : a ≡ waits.Acknowledgement → PutWait a
  for_nothing : a ≡ waits.Nothing → PutWait a

pub put-waits : (g : Deal) (ab : Bool) (h : Heard) (l : Link) → Joint g ab h l → PutWait l.server.engine.awaits
put-waits g ab h l (going mode srm sent xs ps w b hold good order v a t ga under dn hr ha) = for_bytes a
put-waits g ab h l (at_host srm initial sent xs r w b hold v a t up dn hr ha gave) = for_reply a
put-waits g ab h l (at_abort srm sent r w b v a t up dn hr ha) = for_abort a
put-waits g ab h l (replied mode srm sent xs y code w b hold y' mean v a z t r up dn) = for_taken a
put-waits g ab h l (coming mode srm sent xs y code w hold y' mean v a z t up half hl) = for_bytes a
put-waits g ab h l (ended mode srm sent xs x w b hold same a t is dn left fails) = for_nothing a

-- a packet that comes whole is one of the Put, or the Abort
pub record Comes (f : Frames) : Type 0 where
  pub packet : Packet
  pub reads : request_of (take f.result.begun f.packet) ≡ some packet
  pub opcode : (packet.opcode ≡ op.Put) ⊎ (packet.opcode ≡ op.Abort)

good-comes : (g : Deal) (p : Post) → Good g.job p → (f : Frames) → take f.result.begun f.packet ≡ wire p → Comes f
good-comes g (put q m x last initial) w f e = record {
  packet = record { opcode = op.Put; final = last; bytes = q; headers = x };
  reads = ap
      request_of e ∙ w.reads;
  opcode = inl refl;
}
good-comes g (cancel q) w f e =
    record {
      packet = record { opcode = op.Abort; final = true; bytes = q; headers = w.headers };
      reads = ap request_of e
          ∙ w.reads;
      opcode = inr refl;
    }

under-comes : (g : Deal) (ps : List Post) (p up : List ℕ) (b n : ℕ) → AllGood g.job ps → Under ps p up b
    → (framed p b 0 (take n up)).result.frame ≡ Whole
    → Comes (framed p b 0 (take n up))
unfolding framed
under-comes g [] p up b n good w e =
    let i : take n up ≡ [] = ap (take n) w.0 ∙ take_none n in
    let z : MoreBytes ≡ Whole = ap (λ (x : List ℕ). (framed p b 0 x).result.frame) (sym i) ∙ e in
    let y : ◌≡◌ {A = ℕ} 0 1 = cc in absurd (omega arith)
  where
    take_none : (n : ℕ) → take {A = ℕ} n [] ≡ []
    take_none zero = refl
    take_none (suc n) = refl
under-comes g (x ∷ ps) p up b n good w e =
    by (subst (λ (y : List ℕ). Came (wire x) p w.rest b 0 n (framed p b 0 (take n y))) (sym w.is)
    (queued w.rest (wire x) p (wires ps) b 0 n w.half))
  where
    by : Came (wire x) p w.rest b 0 n (framed p b 0 (take n up)) → Comes (framed p b 0 (take n up))
    by (stillGoes s lt i r le) =
        let z : MoreBytes ≡ Whole = ap (λ (f : Frames). f.result.frame) (sym i) ∙ e in
        let y : ◌≡◌ {A = ℕ} 0 1 = cc in absurd (omega arith)
    by (comes s ge i r le) = subst Comes (sym i) (good-comes g x good.0
        (frames (record { begun = length (wire x); taken = 0 + length w.rest; frame = Whole }) s) r)

pub put-comes : (g : Deal) (ab : Bool) (h : Heard) (l : Link) → Joint g ab h l → (n : ℕ) → fits kind.FromPeer l.server.engine.awaits ≡ true
    → let f = framed l.server.stores.packet l.server.engine.begun 0 (take n l.up) in f.result.frame ≡ Whole → Comes f
put-comes g ab h l (going mode srm sent xs ps w b hold good order v a t ga under dn hr ha) n k e =
    under-comes g ps l.server.stores.packet l.up l.server.engine.begun n good under e
put-comes g ab h l (at_host srm initial sent xs r w b hold v a t up dn hr ha gave) n k e =
    absurd (false≢true (sym (ap (λ (x : ServerAwait). fits kind.FromPeer x) a) ∙ k))
put-comes g ab h l (at_abort srm sent r w b v a t up dn hr ha) n k e = absurd
    (false≢true (sym (ap (λ (x : ServerAwait). fits kind.FromPeer x) a) ∙ k))
put-comes g ab h l (replied mode srm sent xs y code w b hold y' mean v a z t r up dn) n k e =
    absurd (false≢true (sym (ap (λ (x : ServerAwait). fits kind.FromPeer x) a) ∙ k))
put-comes g ab h l (coming mode srm sent xs y code w hold y' mean v a z t up half hl) n k e =
    under-comes g [] l.server.stores.packet l.up l.server.engine.begun n tt (up, z) e
put-comes g ab h l (ended mode srm sent xs x w b hold same a t is dn left fails) n k e =
    absurd (false≢true (sym (ap (λ (x : ServerAwait). fits kind.FromPeer x) a) ∙ k))
