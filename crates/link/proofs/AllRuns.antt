-- What a Put or a Get finds after any run of two fresh ends: a run leads to a moment (`Whole`), a call that goes finds nothing open, the server
-- knows the client's limit if the client is connected, and the journal admits what the server admits. Assumes nothing.
use mathlib.Core.Path.{◌≡◌, refl, sym, subst, ◌∙◌}
use mathlib.Core.List.{List, [], ◌∷◌}
use mathlib.Core.Bool.{Bool, true, false, false≢true}
use Prim.Native.Nat.{ℕ}
use Rattle.std.specs.Prelude.{Some, None}
use Rattle.text.specs.Unicode.{Octets}
use Rattle.connection.specs.Peer.{at_least255, ConnectionId}
use Rattle.server.specs.declared.Settings.{Settings as ServerSettings}
use Rattle.model.specs.Runs.{State}
use Rattle.client_model.specs.Guard.{awaiting}
use Rattle.client_model.specs.declared.Settings.{Settings}
use Rattle.client_model.specs.declared.Await.TheVariants as await
use Rattle.link.specs.Link.{Link, UserCall, get, put, connect, disconnect, body, abort, partTaken, Move, move, moves}
use Rattle.link.specs.Told.{goes}
use Rattle.link.specs.Claims.{Plain, Fresh, connected_in, named_after, is_open_of, journal_in}
use Rattle.link.proofs.Moves.{user-refused}
use Rattle.link.proofs.ConnectReplies.{octets-none}
use Rattle.link.proofs.Joint.{AtRest}
use Rattle.link.proofs.Resting.{fresh-rest}
use Rattle.link.proofs.ConnectJoint.{Past, limit_for, open_at}
use Rattle.link.proofs.Parts.{At, Part, Ties}
use Rattle.link.proofs.Whole.{past_after, past_in, past-connected, past-named, Many, puts, gets, Whole, resting, whole-move, whole_run, rested, at_rest, nothing_past, fresh-standing, fresh_tidy}
use Rattle.link.proofs.Journals.{OctetsIn, run_together, together_ties}

-- an id is open in the words of the claim
is_open : (id : ConnectionId) (s : State) → open_at id s.engine.peer s.tables ≡ true → is_open_of id s ≡ true
is_open None s e = refl
is_open (Some i) s e = e

-- a Put or a Get goes only if an operation is awaited
called : (l : Link) (u : UserCall) → Many u → goes l u ≡ true → awaiting l.client await.Call ≡ true
called l u y e = by u y e (awaiting l.client await.Call) refl
  where
    by : (u : UserCall) → Many u → goes l u ≡ true → (b : Bool) → awaiting l.client await.Call ≡ b → awaiting l.client await.Call ≡ true
    by u y e true i = i
    by (put hs has) puts e false i = absurd (false≢true (sym (user-refused l (put hs has) i) ∙ e))
    by (get hs) gets e false i = absurd (false≢true (sym (user-refused l (get hs) i) ∙ e))
    by (connect _) y e false i = elim y [ ]
    by (disconnect _) y e false i = elim y [ ]
    by (body _) y e false i = elim y [ ]
    by abort y e false i = elim y [ ]
    by partTaken y e false i = elim y [ ]

module _ (cs : Settings) (Inside : UserCall → ℕ → Link → Link → Type 0) (part : (u : UserCall) → Many u → Part cs (Inside u) u) (st : ServerSettings)
    (l : Link) (f : Fresh st cs l) where
  abbrev InRun : Past → Link → Type 0
  InRun g k = Whole cs f.client-limit Inside part g k

  begins : InRun nothing_past l
  begins =
      let i = fresh-rest st cs l f in
      record {
        tidy = fresh_tidy st cs l f;
        octets = subst Octets (sym f.up) octets-none;
        moment = resting (subst (λ (n : ℕ). AtRest n l) (sym i.ready.serves.remote) i) (fresh-standing st cs l f);
      }

  in_octets : (ms : List Move) (g : Past) (k : Link) → InRun g k → Plain ms → OctetsIn k ms
  in_octets [] g k w pl = tt
  in_octets (m ∷ ms) g k w pl = (
    w.octets,
    in_octets ms (past_after g k m) (move k m) (whole-move cs f.client-limit Inside part g k w m pl.0) pl.1,
  )

  module _ (before : List Move) (pl : Plain before) where
    abbrev past : Past
    past = past_in nothing_past l before

    ran : InRun past (moves l before)
    ran = whole_run cs f.client-limit Inside part before nothing_past l begins pl

    -- the ConnectionID
    pub names-from : awaiting (moves l before).client await.Call ≡ true
        → ((moves l before).client.connection_id ≡ named_after None l before)
        × (is_open_of (moves l before).client.connection_id (moves l before).server ≡ true)
    names-from c =
        let s = (rested cs f.client-limit Inside part past (moves l before) ran c).1 in (
          s.names ∙ past-named before nothing_past l,
          is_open (moves l before).client.connection_id (moves l before).server
              s.ids.is_open,
        )

    module _ (connected : connected_in false l before ≡ true) where
      -- the server knows the client's limit
      limit : awaiting (moves l before).client await.Call ≡ true → limit_for (moves l before).server ≡ at_least255 cs.max_packet_length
      limit c =
          (rested cs f.client-limit Inside part past (moves l before) ran c).1.limit
          (past-connected before nothing_past l ∙ connected)

      -- nothing is open, and the journal stands for the server
      pub found : (u : UserCall) → Many u → goes (moves l before) u ≡ true
          → At cs (at_least255 cs.max_packet_length) (moves l before) × Ties st (journal_in st l before) (moves l before).server
      found u y go =
          let c = called (moves l before) u y go in
          let i = (rested cs f.client-limit Inside part past (moves l before) ran c).0 in (
            at_rest cs f.client-limit Inside part (at_least255 cs.max_packet_length) past (moves l before) ran c (limit c),
            together_ties st (moves l before).server (journal_in st l before)
                (run_together st l before f.server (in_octets before nothing_past l begins pl)) i.ready.awaits,
          )
