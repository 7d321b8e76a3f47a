-- What the code's steps come to, as turns of the definitions. Assumes nothing.
use mathlib.Core.Path.{◌≡◌, refl, sym, ap, ◌∙◌}
use mathlib.Core.List.{List, [], ◌∷◌}
use mathlib.Core.Bool.{Bool, true, false}
use Prim.Native.Nat.{ℕ, zero, suc, ◌+◌, ◌-◌, ◌/◌, ◌%◌, ◌≤◌, ◌<◌}
use native.Mathlib.Omega.{arith}
use lib.ListN.{get_or}
use lib.Dec.{ltb}
use borrow.Author.Tests.{ltb-false}
use Rattle.packet.specs.Packet.{packet_bytes}
use Rattle.server.specs.declared.CallResult.{CallResult}
use Rattle.model.specs.Step.{Stores, stepped, Called, called}
use Rattle.model.specs.Calls.{start_step, bytes_offered_step, reply_given_step, reply_taken_step}
use Rattle.model.specs.Runs.{step_of}
use Rattle.model.proofs.Fit.{or_left, or_right}
use Rattle.simulator.specs.declared.Move.{Move}
use Rattle.simulator.specs.declared.Move.TheVariants as move
use Rattle.simulator.specs.declared.Game.{Game}
use Rattle.simulator.specs.Play.{Moment, moment, state_in, move_for, call_for, game_after, moment_after, moved, turn, taken_by, asked_by, plays}
use Rattle.simulator.specs.Play.{opening_packet, settings_for, blank_store, begun_in, begun, connects, fresh_game, turns, played, bad_limit, bad_range}
use Rattle.simulator.proofs.Turns.{plays-turn}

-- the move that is due, its call, and what is counted
pub turned : (z : List ℕ) (x : Moment) (v : Move) (took : CallResult) (s : Stores) (g : Game) → v ≡ move_for x.game.outcome x.game.left
    → called (stepped took s) x.tables ≡ step_of (state_in x) (call_for v z) → g ≡ game_after x.game v (get_or x.stores.reply 0 0) took
    → moment g s x.tables ≡ turn z x
unfolding turn
turned z x v took s g hv hc hg =
    ap (λ (y : Game). moment y s x.tables) hg
    ∙ ap (λ (c : Called). moment_after x v c) hc
    ∙ ap (λ (w : Move). moved z x w) hv

-- a turn counts one packet and one request at most
pub record Counted (x y : Moment) : Type 0 where
  pub packets : y.game.packets ≤ x.game.packets + 1
  pub requests : y.game.requests ≤ x.game.requests + 1

taken-few : (v : Move) → taken_by v ≤ 1
taken-few move.Ask = omega arith
taken-few move.Take = omega arith
taken-few move.GiveObject = omega arith
taken-few (move.GiveBody k) = omega arith
taken-few move.Stop = omega arith

asked-few : (v : Move) → asked_by v ≤ 1
asked-few move.Ask = omega arith
asked-few move.Take = omega arith
asked-few move.GiveObject = omega arith
asked-few (move.GiveBody k) = omega arith
asked-few move.Stop = omega arith

pub turn-counted : (z : List ℕ) (x : Moment) → Counted x (turn z x)
unfolding turn game_after
turn-counted z x =
    let v = move_for x.game.outcome x.game.left in
    record { packets = omega (arith, taken-few v); requests = omega (arith, asked-few v) }

-- ---- the turns of a loop

pub plays-none : (z : List ℕ) (f : ℕ) (x : Moment) → f ≤ 0 → plays z f x ≡ x
unfolding plays
plays-none z zero x h = refl
plays-none z (suc f) x h = absurd (omega arith)

pub plays-one : (z : List ℕ) (f : ℕ) (x y : Moment) → 0 < f → x.game.over ≡ false → y ≡ turn z x → plays z (f - 1) y ≡ plays z f x
plays-one z zero x y h o e = absurd (omega arith)
plays-one z (suc f) x y h o e =
    let a : suc f - 1 ≡ f = omega arith in
    ap (λ (k : ℕ). plays z k y) a ∙ sym (plays-turn z f x y o (sym e))

-- ---- the Connect

pub connect_with : (m : ℕ) (srm : Bool) → srm ≡ true
    → (0x80 ∷ 0x00 ∷ 0x09 ∷ 0x10 ∷ 0x00 ∷ m / 256 ∷ m % 256 ∷ 0x97 ∷ 0x01 ∷ []) ≡ opening_packet m srm
unfolding packet_bytes
connect_with m srm h = rw h

pub connect_without : (m : ℕ) (srm : Bool) → srm ≡ false
    → (0x80 ∷ 0x00 ∷ 0x07 ∷ 0x10 ∷ 0x00 ∷ m / 256 ∷ m % 256 ∷ []) ≡ opening_packet m srm
unfolding packet_bytes
connect_without m srm h = rw h

-- the four calls that open a session
pub connected_by_lem : (srm : Bool) (m : ℕ) (s z₀ z₁ z₂ z₃ : Stores) (t u : List ℕ) (r₀ r₁ r₂ r₃ : CallResult)
    → stepped r₀ z₀ ≡ start_step (settings_for srm) [] s t
    → stepped r₁ z₁ ≡ bytes_offered_step r₀.engine (opening_packet m srm) z₀ t
    → called (stepped r₂ z₂) u ≡ reply_given_step r₁.engine 0x20 [] z₁ t
    → stepped r₃ z₃ ≡ reply_taken_step r₂.engine z₂
    → called (stepped r₃ z₃) u ≡ connects (begun_in srm s t) m srm
unfolding connects
connected_by_lem srm m s z₀ z₁ z₂ z₃ t u r₀ r₁ r₂ r₃ h₀ h₁ h₂ h₃ = rw (← h₀, ← h₁, ← h₂, ← h₃)

-- ---- a whole game

pub played_by : (n m : ℕ) (srm : Bool) (r : CallResult) (z : Stores) (t : List ℕ) (y : Moment)
    → called (stepped r z) t ≡ connects (begun srm) m srm
    → y ≡ plays (blank_store 65535) (turns n) (moment (fresh_game n r) z t)
    → y ≡ played n m srm
unfolding played
played_by n m srm r z t y h e =
    e ∙ ap (λ (c : Called). plays (blank_store 65535) (turns n) (moment (fresh_game n c.took) c.stores c.tables)) h

-- ---- limits that are none are refused before they are cut to 16 bits

pub limit-fits : (m : ℕ) → bad_limit m ≡ false → m ≤ 65535
limit-fits m h = ltb-false 65535 m (or_right (ltb m 255) _ h)

pub record RangeFits (m₀ m₁ : ℕ) : Type 0 where
  pub low : m₀ ≤ 65535
  pub high : m₁ ≤ 65535

pub range_fits : (n₀ n₁ m₀ m₁ : ℕ) → bad_range n₀ n₁ m₀ m₁ ≡ false → RangeFits m₀ m₁
range_fits n₀ n₁ m₀ m₁ h =
    let l = or_right (ltb m₁ m₀) _ (or_right (ltb n₁ n₀) _ h) in
    record { low = limit-fits m₀ (or_left _ _ l); high = limit-fits m₁ (or_right (bad_limit m₀) _ l) }
