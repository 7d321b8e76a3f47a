-- Whole games: the counts are those of the formula, and the corners of a range bound it. Assumes nothing.
use mathlib.Core.Path.{◌≡◌, refl, ap, ◌∙◌}
use mathlib.Core.Bool.{Bool, true, false}
use Prim.Native.Nat.{ℕ, suc, ◌+◌, ◌-◌, ◌*◌, ◌≤◌}
use native.Mathlib.Omega.{arith}
use lib.ListN.{length}
use lib.Dec.{ltb}
use borrow.Author.Tests.{ltb-false, le-ltb}
use Rattle.base.specs.Pick.{pick}
use Rattle.table.specs.Targets.{unnamed}
use Rattle.model.specs.Step.{Stores, engine_with}
use Rattle.model.proofs.Fit.{or_left, or_right, Room}
use Rattle.simulator.specs.declared.Simulated.TheVariants as simulated
use Rattle.simulator.specs.declared.Ranged.TheVariants as ranged
use Rattle.simulator.specs.Play.{Moment, blank_store, blank, settings_for, session_with, played, turns, bad_limit, bad_range}
use Rattle.simulator.specs.Play.{simulate, simulate_range, formula_packets}
use Rattle.simulator.specs.Claims.{AgreesWithFormula, Formula, Bounds, Corners}
use Rattle.simulator.proofs.Counting.{at_least_one, between}
use Rattle.simulator.proofs.Turns.{Ended, ended_as, ended_by, to_the_end}
use Rattle.simulator.proofs.Openings.{zeros-length, blank-room, begun_is, peer_of, peer-limit, peer-mode, peer-fits}
use Rattle.simulator.proofs.Openings.{connects_to, connect_length, length-short, opening, opens_to}

module _ (n m : ℕ) (srm : Bool) (low : 255 ≤ m) (high : m ≤ 65535) where
  tables : 320 ≤ length (blank_store 320)
  tables = omega (arith, zeros-length 320)

  long : 65535 ≤ length (blank_store 65535)
  long = omega (arith, zeros-length 65535)

  -- the session, once it is connected
  record Session : Type 0 where
    stores : Stores
    room : Room 0 stores
    is : session_with n m srm ≡ opening m low high srm (blank_store 320) tables n stores (connect_length srm)

  session : Session
  session =
      let v = connects_to m low high srm (blank_store 320) tables n blank blank-room in
      record { stores = v.0; room = v.1.0; is = rw (begun_is srm) v.1.1 }

  requests_are : (w : Bool) (c : ℕ) → 1 ≤ c → 1 + pick w 0 (c - 1) ≡ pick w 1 c
  requests_are true c h = refl
  requests_are false c h = omega arith

  pub ended : Ended (formula_packets n m) (pick srm 1 (formula_packets n m)) (played n m srm)
  unfolding played
  ended =
      let f : turns n ≡ suc (suc (4 * n + 6)) = omega arith in
      let v =
      opens_to m low high srm (blank_store 320) tables (blank_store 65535) n session.stores (connect_length srm) (4 * n + 6) session.room
      (length-short m low high srm (blank_store 320) tables) in
      let e =
      to_the_end (blank_store 65535) long m low high (settings_for srm) (peer_of m srm) (peer-fits m low high srm (blank_store 320) tables)
      (peer-limit m low high srm (blank_store 320) tables) unnamed (blank_store 320) tables srm n n 0 1 (4 * n + 6) _ (omega arith) (omega arith)
      (record {
        stores = v.0;
        len = 3;
        has = false;
        pending = 0;
        got = 0;
        room = m - 5;
        left = n;
        lent = v.1.0;
        short = omega arith;
        ahead = omega arith;
        rest = omega arith;
        bytes = omega arith;
        is = refl;
      }) in
      ended_by (formula_packets n m) (pick srm 1 (formula_packets n m)) _ _ (rw (f, session.is) v.1.1)
      (ended_as (0 + formula_packets n m) (formula_packets n m) (1 + pick srm 0 (formula_packets n m - 1)) (pick srm 1 (formula_packets n m)) _
      (omega arith)
      (requests_are srm (formula_packets n m) (at_least_one n m (omega arith))) e)

  -- ---- the formula

  answers : simulate n m srm ≡ simulated.Counts (formula_packets n m) (pick srm 1 (formula_packets n m))
  unfolding simulate
  answers = rw (le-ltb m 255 low, le-ltb 65535 m high, ended.packets, ended.requests)

  pub agrees : AgreesWithFormula n m srm
  unfolding engine_with
  agrees =
      record {
        limit =
            ap (λ (x : Moment). x.game.engine.peer.remote_max_packet_length) session.is
            ∙ peer-limit m low high srm (blank_store 320) tables;
        mode = ap (λ (x : Moment). x.game.engine.peer.srm_enabled) session.is ∙ peer-mode m low high srm (blank_store 320) tables;
        over = ended.over;
        whole = ended.left;
        free = ended.waits;
        packets = ended.packets;
        requests = ended.requests;
        answer = answers;
      }

pub formula : Formula
formula n m srm low high = agrees n m srm low high

-- ---- ranges

pub corners : Corners
unfolding simulate_range
corners n₀ n₁ m₀ m₁ srm a b e = go (bad_range n₀ n₁ m₀ m₁) refl e
  where
    go : (w : Bool) → bad_range n₀ n₁ m₀ m₁ ≡ w
        → pick w ranged.Outside (ranged.Packets (played n₀ m₁ srm).game.packets (played n₁ m₀ srm).game.packets) ≡ ranged.Packets a b
        → Bounds n₀ n₁ m₀ m₁ srm a b
    go true h e = let z : ◌≡◌ {A = ℕ} 0 1 = cc in absurd (omega arith)
    go false h e =
        let i : n₀ ≤ n₁ = ltb-false _ _ (or_left _ _ h) in
        let j = or_right (ltb n₁ n₀) _ h in
        let k : m₀ ≤ m₁ = ltb-false _ _ (or_left _ _ j) in
        let l = or_right (ltb m₁ m₀) _ j in
        let low : 255 ≤ m₀ = ltb-false _ _ (or_left _ _ (or_left _ _ l)) in
        let high : m₁ ≤ 65535 = ltb-false _ _ (or_right (ltb m₁ 255) _ (or_right (bad_limit m₀) _ l)) in
        let x : (played n₀ m₁ srm).game.packets ≡ a = cc in
        let y : (played n₁ m₀ srm).game.packets ≡ b = cc in
        let p = (agrees n₀ m₁ srm (omega arith) high).packets in
        let q = (agrees n₁ m₀ srm low (omega arith)).packets in
        record {
          least = λ n m w.
              let r = (agrees n m srm (omega (arith, w.from)) (omega (arith, w.to))).packets in
              omega (arith, between n₀ n m m₁ (omega (arith, w.from)) w.above w.to);
          greatest = λ n m w.
              let r = (agrees n m srm (omega (arith, w.from)) (omega (arith, w.to))).packets in
              omega (arith, between n n₁ m₀ m (omega arith) w.below w.from);
          least_reached =
              record { body = n₀; limit = m₁; within = record { above = omega arith; below = i; from = k; to = omega arith }; takes = x };
          greatest_reached =
              record { body = n₁; limit = m₀; within = record { above = i; below = omega arith; from = omega arith; to = k }; takes = y };
        }
