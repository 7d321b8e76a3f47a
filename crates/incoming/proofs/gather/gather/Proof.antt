-- `incoming::gather::gather` meets its contract. The invariant: gathering what is left, from here on, gives what the whole packet gives.
use borrow.Author.Rules.{rules}
use native.Mathlib.Omega.{arith}
use Prim.Native.Nat.{◌-◌, ◌≤◌}
use mathlib.Core.Path.{◌≡◌, refl, sym, ◌∙◌}
use lib.ListN.{length}
use borrow.Author.Tests.{not-true, not-false}
use Rattle.packet.specs.Header.{read_headers}
use Rattle.packet.proofs.HeaderBytes.{header_at_bytes}
use Rattle.packet.proofs.HeaderLaws.{Here, by_cursor_lem}
use Rattle.incoming.specs.Gather.{gathering, gather_all, headers_of}
use Rattle.incoming.proofs.Turns.{Left, turn, stops, ends}
use Rattle.incoming.proofs.gather.gather.Statement.{statement}
use Rattle.incoming.proofs.gather.gather.Tie as tie

abbrev invariant-loop : tie.invariant-loop-g
invariant-loop p from keep limit headers₀ body₀ g₀ at₀ headers body g at =
    Left p at keep limit (gathering g headers body) (gather_all keep limit (headers_of (read_headers p from)) (gathering g₀ headers₀ body₀))
    × (length headers ≡ length headers₀) × (length body ≡ length body₀)

abbrev decreases-loop : tie.decreases-loop-g
decreases-loop p from keep limit headers₀ body₀ g₀ at₀ headers body g at = length p - at

loop-holds : tie.Need-loop-g-init invariant-loop decreases-loop
loop-holds c =
    let s = c.before.before.before in
    (record { readable = s.requires.0; gives = refl; kept-room = s.requires.1; body-within = s.requires.3 }, refl, refl)

step-requires : tie.Need-step-requires invariant-loop decreases-loop
step-requires c κs = search rules

enum-known-id : tie.Need-enum_known-id invariant-loop decreases-loop
enum-known-id c = search rules

-- in a turn that goes on, a header stands at the place
here : (c : tie.In-At invariant-loop decreases-loop) →
    let v = c.in-At in
    Here c.args.p.now c.loop-g.at v.id v.encoding v.start v.«end»
here c = by_cursor_lem _ _ _ (sym c.step.ensures ∙ c.in-At.is)

same_length : tie.Need-shape_of-headers-in_default invariant-loop decreases-loop
same_length c = c.loop-g.invariant.1

same-length-2 : tie.Need-shape_of-body-in_default invariant-loop decreases-loop
same-length-2 c = c.loop-g.invariant.2

returns : tie.Need-returns-in_default invariant-loop decreases-loop
returns c =
    let l = c.loop-g.invariant.0 in
    (ends _ _ _ _ _ _ l _ c.step.ensures c.in_default.in_default-own.keys2, (l.kept-room, l.body-within))

gather-one-requires : tie.Need-gather_one-g-requires invariant-loop decreases-loop
gather-one-requires c κs =
    let k = c.before.before in
    let h = here k in
    let e = sym k.step.ensures ∙ k.in-At.is in
    let s = k.before.before.before.before.before.before.before in
    let octets = s.shared_slice_known-1.given in (
      header_at_bytes s.args.p.now _ _ _ _ _ (λ i. omega (arith, octets i)) e,
      omega arith,
      omega arith,
      omega arith,
      omega arith,
      omega arith,
      omega arith,
      omega arith,
    )

loop-less : tie.Need-loop-g-smaller invariant-loop decreases-loop
loop-less c = let h = here c.before.before.before.before.before.before.before in omega arith

loop-again : tie.Need-loop-g-preserved invariant-loop decreases-loop
loop-again c =
    let o = c.gather_one-g in
    let k = c.before.before.before.before.before.before.before in
    let t = k.before.before in
    let l = t.loop-g in
    let s = t.before.before.before.before.before.before in
    let x = gathering l.g l.headers l.body in
    let room : 65535 ≤ length l.headers = omega (arith, s.requires.2, l.invariant.1) in
    let body-room : s.args.limit ≤ length l.body = omega (arith, s.requires.4, l.invariant.2) in
    let lent = o.auto in (
      turn _ _ _ _ x _ l.invariant.0 _ _ _ _ (here k) (not-true l.g.full t.loop-g-test.true) room body-room _ o.ensures,
      lent.headers ∙ l.invariant.1,
      lent.body ∙ l.invariant.2,
    )

same-length-3 : tie.Need-shape_of-headers invariant-loop decreases-loop
same-length-3 c = c.loop-g.invariant.1

same-length-4 : tie.Need-shape_of-body invariant-loop decreases-loop
same-length-4 c = c.loop-g.invariant.2

returns-2 : tie.Need-returns invariant-loop decreases-loop
returns-2 c =
    let l = c.loop-g in
    let i = l.invariant.0 in
    (stops _ _ _ _ _ _ i (not-false l.g.full c.loop-g-test.false), (i.kept-room, i.body-within))

pub gather_spec : {M : Type 1} → statement M
gather_spec =
    tie.close
    (tie.spec
    invariant-loop
    decreases-loop
    loop-holds
    step-requires
    enum-known-id
    same_length
    same-length-2
    returns
    gather-one-requires
    loop-less
    loop-again
    same-length-3
    same-length-4
    returns-2)
