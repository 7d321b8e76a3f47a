-- The claims of link/specs/Claims, PutMore and GetMore, as they are stated there, on every run of two fresh ends: Puts, Gets, Aborts, Connects and
-- Disconnects in any order, with Single Response Mode or without. A run leads to a link in which nothing is open (`AllRuns`), and of one Put and one
-- Get from there the claims hold (`PutWhole`, `GetSlice`). Assumes nothing.
use mathlib.Core.Path.{◌≡◌, sym, ap, subst, ◌∙◌}
use mathlib.Core.List.{List}
use mathlib.Core.Bool.{Bool, true, false}
use mathlib.Core.Logic.{inl, inr}
use Prim.Native.Nat.{ℕ}
use Rattle.connection.specs.Peer.{at_least255}
use Rattle.server.specs.declared.Settings.{Settings as ServerSettings}
use Rattle.client_model.specs.Answer.{is_connecting}
use Rattle.client_model.specs.declared.Operation.{Operation as ClientOperation}
use Rattle.client_model.specs.declared.Settings.{Settings}
use Rattle.link.specs.Link.{Link, UserCall, connect, get, disconnect, put, body, abort, partTaken, Move, move, moves}
use Rattle.link.specs.Told.{goes}
use Rattle.link.specs.Claims.{Plain, Fresh, connected_in, first_put, journal_in, Names, Puts, Gets}
use Rattle.link.specs.PutMore.{PutsMore}
use Rattle.link.specs.GetMore.{GetsMore}
use Rattle.link.proofs.Joint.{AtRest}
use Rattle.link.proofs.PutMoments.{InPut, in_put, in_abort, put-busy, put-fine}
use Rattle.link.proofs.PutWhole.{deal, put_holds, put-more}
use Rattle.link.proofs.PutPart as put_part
use Rattle.link.proofs.PutPart.{PutInside, PutAfter}
use Rattle.link.proofs.GetHeard.{get_heard_after}
use Rattle.link.proofs.GetJoint.{GetNext, goes as goes_on_of, over, both-ended, is_idle}
use Rattle.link.proofs.GetRuns.{get_move}
use Rattle.link.proofs.GetSlice.{origin_of, fetch, get_holds, get_more}
use Rattle.link.proofs.GetPart as get_part
use Rattle.link.proofs.GetPart.{GetInside}
use Rattle.link.proofs.Parts.{At, After, still, rests, gone, Part, Ties}
use Rattle.link.proofs.Whole.{Many, puts as many-puts, gets as many-gets}
use Rattle.link.proofs.AllRuns.{names-from, found}

-- ---- a Put and a Get

module _ (cs : Settings) where
  abbrev Inside : UserCall → ℕ → Link → Link → Type 0
  Inside (put hs has) box before l = PutInside hs has box before l × (before.client.settings ≡ cs)
  Inside (get hs) box before l = GetInside hs box before l × (before.client.settings ≡ cs)
  Inside (connect hs) box before l = ⊥
  Inside (disconnect hs) box before l = ⊥
  Inside (body d) box before l = ⊥
  Inside abort box before l = ⊥
  Inside partTaken box before l = ⊥

  no_connect : (o : ClientOperation) → InPut o → is_connecting o ≡ false
  no_connect o (in_put x y srm initial last e) = ap is_connecting e
  no_connect o (in_abort e) = ap is_connecting e

  put_is : (hs : List ℕ) (has : Bool) → Part cs (Inside (put hs has)) (put hs has)
  put_is hs has =
      record {
        begins = λ box l i pl go. (put_part.inside-begins hs has box l i.0 pl go, i.1);
        goes_on = λ box before l w m pl. by box before (move l m) w.1 (put_part.inside-goes hs has box before l w.0 m pl);
        busy =
            λ box before l x. let w = x.0 in
            let b = put-busy (deal box before w.rest hs has w.octets w.called) w.ab w.heard l w.joint in
            record { awaits = b.0; operation = no_connect l.client.operation b.1 };
        octets =
            λ box before l x n e. let w = x.0 in
            (put-fine (deal box before w.rest hs has w.octets w.called) w.ab w.heard l w.joint n e).0 w.given;
      }
    where
      by : (box : ℕ) (before l : Link) → before.client.settings ≡ cs → PutAfter hs has box before l → After cs (Inside (put hs has)) box before l
      by box before l e (put_part.still w) = still (w, e)
      by box before l e (put_part.rests (inl x) k) = gone x
      by box before l e (put_part.rests (inr i) k) =
          rests (i, k.settings ∙ e) (record { client = k.settings; id = k.id; server = k.server; peer = k.peer; tables = k.tables })

  get_is : (hs : List ℕ) → Part cs (Inside (get hs)) (get hs)
  get_is hs =
      record {
        begins = λ box l i pl go. (get_part.inside-begins hs box l i.0 pl go, i.1);
        goes_on =
            λ box before l x m pl. let w = x.0 in
            by box before l w x.1 m (get_move (fetch box before w.idle hs w.octets w.called) (origin_of before) w.heard l
            w.joint m pl);
        busy =
            λ box before l x. let w = x.0 in
            let j = fetch box before w.idle hs w.octets w.called in
            record {
              awaits = get_part.none-called j (origin_of before) w.heard l w.joint;
              operation = get_part.none-connects l.client.operation (get_part.get_operation j (origin_of before) w.heard l w.joint);
            };
        octets =
            λ box before l x n e. let w = x.0 in
            get_part.get_octets (fetch box before w.idle hs w.octets w.called) (origin_of before) w.heard l w.joint n e;
      }
    where
      by : (box : ℕ) (before l : Link) (w : GetInside hs box before l) → before.client.settings ≡ cs → (m : Move)
          → GetNext (fetch box before w.idle hs w.octets w.called) (origin_of before) (get_heard_after w.heard l m) (move l m)
          → After cs (Inside (get hs)) box before (move l m)
      by box before l w e m (goes_on_of g) =
          still (
            record {
              idle = w.idle;
              octets = w.octets;
              called = w.called;
              heard = get_heard_after
                  w.heard l m;
              joint = g;
            },
            e,
          )
      by box before l w e m (over f (both-ended x i t lg)) = gone i
      by box before l w e m (over f (is_idle i s)) =
          rests (subst (λ (n : ℕ). AtRest n (move l m)) w.idle.ready.serves.remote i, s.settings ∙ e)
          (record { client = s.settings; id = s.id; server = s.server; peer = s.peer; tables = s.tables })

  part : (u : UserCall) → Many u → Part cs (Inside u) u
  part (put hs has) many-puts = put_is hs has
  part (get hs) many-gets = get_is hs
  part (connect _) y = elim y [ ]
  part (disconnect _) y = elim y [ ]
  part (body _) y = elim y [ ]
  part abort y = elim y [ ]
  part partTaken y = elim y [ ]

  -- what a Put or a Get finds
  before-call : (st : ServerSettings) (l : Link) (before : List Move) → Fresh st cs l → Plain before → connected_in false l before ≡ true
      → (u : UserCall) → Many u → goes (moves l before) u ≡ true
      → At cs (at_least255 cs.max_packet_length) (moves l before) × Ties st (journal_in st l before) (moves l before).server
  before-call st l before f pb c = found cs Inside part st l f before pb c

-- ---- the claims

pub all-names : Names
all-names st cs l ms f pl c = names-from cs (Inside cs) (part cs) st l f ms pl c

pub puts : Puts
puts st cs l before ms hs has f pb pl c go un =
    let w = before-call cs st l before f pb c (put hs has) many-puts go in
    let r = first_put (moves l before).client hs in
    put_holds st cs (journal_in st l before) (moves l before) hs has ms w.0.0 w.1.settings pl.0 go pl.1 un
    (λ e. sym (w.1.puts r) ∙ e)

pub gets : Gets
gets st cs l before ms hs f pb pl c go un ab =
    get_holds cs (moves l before) hs ms (before-call cs st l before f pb c (get hs) many-gets go).0.0 pl.0 go pl.1 un ab

pub puts-more : PutsMore
puts-more st cs l before ms hs has f pb pl c go un =
    let w = before-call cs st l before f pb c (put hs has) many-puts go in
    put-more st cs (journal_in st l before) (moves l before) hs has ms w.0.0 w.1.settings pl.0 go pl.1 un
    (w.1.puts (first_put (moves l before).client hs))

pub gets_more : GetsMore
gets_more st cs l before ms hs f pb pl c go un =
    let w = before-call cs st l before f pb c (get hs) many-gets go in
    get_more cs (journal_in st l before) (moves l before) hs ms w.0.0 pl.0 go pl.1 un
    (λ e. sym (w.1.gets (moves l before).client) ∙ e)
