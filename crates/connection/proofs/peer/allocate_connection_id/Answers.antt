-- `connection::peer::allocate_connection_id` meets its contract. All candidates passed over are different and are open or reserved, so that
-- there are at most 65 (`enough`), and the search from the one looked at yields what the search from the counter does. Assumes nothing.
use Rattle.std.proofs.Common.{◌≡◌, ℕ, suc, ◌+◌, ◌-◌, ◌%◌, ◌^◌, ◌<◌, ◌≤◌, true, false, length, take, sym, refl, ap, ◌∙◌, not-suc-le-zero, arith, length-take-le, below_more}
use Rattle.journal.specs.Ids.{taken, first_free}
use Rattle.connection.proofs.Open.{looked, none-looked, one-looked, enough, passed, found}
use Rattle.connection.proofs.peer.allocate_connection_id.Goals as goal

pub loop-at-init : goal.loop-at-init
loop-at-init c =
    let x = c.args in
    let z : looked x.counter x.counter ≡ 0 = none-looked x.counter in (
      omega (arith, z),
      omega (arith, z),
      λ i h. absurd (omega (arith, z, h)),
      ap (λ (k : ℕ). first_free (66 - k) (take x.count x.ids.now) x.counter) (sym z),
    )

pub loop-at-preserved : goal.loop-at-preserved
loop-at-preserved c =
    let x = c.args in
    let l = c.loop-at in
    let k = looked x.counter l.at in
    let next = (l.at + 1) % 2 ^ 32 in
    let xs = take x.count x.ids.now in
    let len : length xs ≤ 64 = omega (arith, length-take-le x.count x.ids.now (omega arith)) in
    let t : taken xs l.at ≡ true = sym c.is_taken.ensures ∙ c.if-not-is_taken.false in
    let t' : taken xs ((x.counter + k) % 2 ^ 32) ≡ true = sym (ap (taken xs) l.invariant.1) ∙ t in
    let all : (i : ℕ) → i < k + 1 → taken xs ((x.counter + i) % 2 ^ 32) ≡ true =
    below_more (λ (i : ℕ). taken xs ((x.counter + i) % 2 ^ 32) ≡ true) k l.invariant.2 t' in
    let few : k + 1 ≤ 65 = enough xs x.counter (k + 1) len (omega arith) all in
    let more : looked x.counter next ≡ k + 1 = one-looked x.counter k l.at next c.ranges.counter.fits (omega arith) l.invariant.1 refl in
    let n : 66 - k ≡ suc (66 - (k + 1)) = omega arith in (
      omega (arith, few, more),
      omega (arith, more, l.invariant.1),
      λ i h. all i (omega (arith, more, h)),
      l.invariant.3 ∙ ap (λ (j : ℕ). first_free j xs l.at) n ∙ passed (66 - (k + 1)) xs l.at t
          ∙ ap (λ (j : ℕ). first_free (66 - j) xs next) (sym more),
    )

pub returns : goal.returns
returns c =
    let x = c.args in
    let l = c.loop-at in
    let k = looked x.counter l.at in
    let xs = take x.count x.ids.now in
    let t : taken xs l.at ≡ false = sym c.is_taken.ensures ∙ c.if-not-is_taken.true in
    let n : 66 - k ≡ suc (65 - k) = omega arith in record {
      id_value = (
        sym (l.invariant.3 ∙ ap (λ (k : ℕ). first_free k xs l.at) n ∙ found (65 - k) xs l.at t),
        refl,
      );
      unused = t;
    }
