-- A Put as a part of a longer run: it begins where nothing is open, each move keeps it or ends it, and then nothing is open again or the client has
-- ended; what a Connect sets is left as it was. Assumes nothing.
use mathlib.Core.Path.{◌≡◌, subst}
use mathlib.Core.List.{List}
use mathlib.Core.Bool.{Bool, true, false, ◌||◌}
use Prim.Native.Nat.{ℕ}
use native.Mathlib.Omega.{arith}
use Rattle.text.specs.Unicode.{Octets}
use Rattle.link.specs.Link.{Link, put, Move, user, move}
use Rattle.link.specs.Told.{aborts, goes}
use Rattle.link.specs.Claims.{PlainMove}
use Rattle.link.proofs.Moves.{Heard, nothing_heard, heard_after}
use Rattle.link.proofs.Joint.{AtRest, Joint, Rests, Next, goes as stays, over}
use Rattle.link.proofs.PutRuns.{joint_move}
use Rattle.link.proofs.PutMoments.{given-octets}
use Rattle.link.proofs.PutWhole.{deal, put-begins}

-- a Put with the headers `hs`, with a body or without, that was called in `before`, where nothing was open, and has led to `l`
pub record PutInside (hs : List ℕ) (has : Bool) (box : ℕ) (before l : Link) : Type 0 where
  pub rest : AtRest box before
  pub octets : Octets hs
  pub called : goes before (put hs has) ≡ true
  pub ab : Bool
  pub heard : Heard
  pub given : Octets heard.given
  pub joint : Joint (deal box before rest hs has octets called) ab heard l

pub inside-begins : (hs : List ℕ) (has : Bool) (box : ℕ) (l : Link) → AtRest box l → Octets hs → goes l (put hs has) ≡ true
    → PutInside hs has box l (move l (user (put hs has)))
inside-begins hs has box l i oct go =
    record {
      rest = i;
      octets = oct;
      called = go;
      ab = false;
      heard = nothing_heard;
      given = λ k. omega arith;
      joint = put-begins box l i hs has oct go;
    }

-- what a Connect sets, at both ends
pub record Kept (before l : Link) : Type 0 where
  pub id : l.client.connection_id ≡ before.client.connection_id
  pub remote : l.client.remote_max_packet_length ≡ before.client.remote_max_packet_length
  pub settings : l.client.settings ≡ before.client.settings
  pub server : l.server.engine.settings ≡ before.server.engine.settings
  pub peer : l.server.engine.peer ≡ before.server.engine.peer
  pub tables : l.server.tables ≡ before.server.tables

pub data PutAfter (hs : List ℕ) (has : Bool) (box : ℕ) (before l : Link) : Type 0 where
  still : PutInside hs has box before l → PutAfter hs has box before l
  rests : Rests box l → Kept before l → PutAfter hs has box before l

pub inside-goes : (hs : List ℕ) (has : Bool) (box : ℕ) (before l : Link) → PutInside hs has box before l → (m : Move) → PlainMove m
    → PutAfter hs has box before (move l m)
inside-goes hs has box before l w m pl =
    by (joint_move (deal box before w.rest hs has w.octets w.called) w.ab w.heard l w.joint m pl)
  where
    by : Next (deal box before w.rest hs has w.octets w.called) (w.ab || aborts l m) (heard_after w.heard l m) (move l m)
        → PutAfter hs has box before (move l m)
    by (stays k) =
        still (record {
          rest = w.rest;
          octets = w.octets;
          called = w.called;
          ab = w.ab || aborts l m;
          heard = heard_after w.heard l m;
          given = given-octets w.heard l m w.given pl;
          joint = k;
        })
    by (over f r u) =
        rests (subst (λ (n : ℕ). Rests n (move l m)) w.rest.ready.serves.remote r)
        (record {
          id = u.id;
          remote = u.remote;
          settings = u.settings;
          server = u.server.settings;
          peer = u.server.peer;
          tables = u.server.tables;
        })
