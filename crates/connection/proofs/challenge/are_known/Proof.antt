-- `connection::challenge::are_known` meets its contract. The invariant: the answer is that of what is left; a header that is passed is known. Assumes nothing.
use Rattle.std.proofs.Common.{◌≡◌, ◌-◌, Bool, true, false, List, [], length, sym, refl, ap, ◌∙◌, arith, rules}
use mathlib.Core.Option.{Option, some}
use Rattle.base.specs.Pick.{pick}
use Rattle.packet.specs.Header.{Header, part, read_headers}
use Rattle.packet.specs.declared.header.HeaderAt.TheVariants.{Unreadable, End}
use Rattle.packet.proofs.HeaderLaws.{Here, by_cursor_lem}
use Rattle.connection.specs.ConnectReply.{challenges}
use Rattle.connection.specs.Pieces.{known_in, known_header}
use Rattle.connection.proofs.Challenges.{known_step}
use Rattle.connection.proofs.challenge.are_known.Statement.{statement}
use Rattle.connection.proofs.challenge.are_known.Tie as tie

abbrev invariant-loop : tie.invariant-loop-id
invariant-loop packet from at₀ at = known_in (read_headers packet from) ≡ known_in (read_headers packet at)

abbrev decreases-loop : tie.decreases-loop-id
decreases-loop packet from at₀ at = length packet - at

loop-holds : tie.Need-loop-id-init invariant-loop decreases-loop
loop-holds c = refl

header-at-requires : tie.Need-header_at-requires invariant-loop decreases-loop
header-at-requires c κs = search rules

enum-known-id : tie.Need-enum_known-id invariant-loop decreases-loop
enum-known-id c = search rules

-- in a turn that goes on, a header stands at the place
here : (c : tie.In-At invariant-loop decreases-loop) →
    let v = c.in-At in
    let l = c.before.before in
    Here l.args.packet.now l.loop-id.at v.id v.encoding v.start v.«end»
here c = by_cursor_lem _ _ _ (sym c.header_at.ensures ∙ c.in-At.is)

sub-is-known : tie.Need-slice_bounds-is_known-count invariant-loop decreases-loop
sub-is-known c = let h = here c in omega arith

part-is-known-start : tie.Need-slice_bounds-is_known-start invariant-loop decreases-loop
part-is-known-start c = let h = here c in omega arith

part-is-known-end : tie.Need-slice_bounds-is_known-end invariant-loop decreases-loop
part-is-known-end c = let h = here c in omega arith

is-known-requires : tie.Need-is_known-requires invariant-loop decreases-loop
is-known-requires c κs = search rules

-- what the header there adds to the answer
turn : (c : tie.In-At invariant-loop decreases-loop) (b : Bool) → let v = c.in-At in
    let s = c.args.packet.now in
    known_header v.id (part s v.start v.«end») ≡ b
    → known_in (read_headers s c.loop-id.at) ≡ pick b (known_in (read_headers s v.«end»)) false
turn c b e =
    let v = c.in-At in
    let s = c.args.packet.now in
    ap known_in (here c).list
    ∙ known_step v.id (part s v.start v.«end») (read_headers s v.«end»)
    ∙ ap (λ (b : Bool). pick b (known_in (read_headers s v.«end»)) false) e

-- no header is left
none_left : (r : Option (List Header)) → r ≡ some [] → known_in r ≡ true
unfolding challenges
none_left r e = rw e

returns : tie.Need-returns-then-not-is_known invariant-loop decreases-loop
returns c =
    let k = c.before.before.before in
    let l = k.before.before in
    sym (l.loop-id.invariant ∙ turn k false (sym c.is_known.ensures ∙ c.if-not-is_known.true))

loop-less : tie.Need-loop-id-smaller invariant-loop decreases-loop
loop-less c = let h = here c.before.before.before in omega arith

loop-again : tie.Need-loop-id-preserved invariant-loop decreases-loop
loop-again c =
    let k = c.before.before.before in
    let l = k.before.before in
    l.loop-id.invariant ∙ turn k true (sym c.is_known.ensures ∙ c.if-not-is_known.false)

enum_told : tie.Need-enum_told-1 invariant-loop decreases-loop
enum_told c = search rules

returns-2 : tie.Need-returns-in-Unreadable invariant-loop decreases-loop
returns-2 c =
    let l = c.before.before in
    sym (l.loop-id.invariant ∙ ap known_in (by_cursor_lem _ _ Unreadable (sym c.header_at.ensures ∙ c.in-Unreadable.is)))

enum-told-2 : tie.Need-enum_told-in-End invariant-loop decreases-loop
enum-told-2 c = search rules

returns-3 : tie.Need-returns-in-End invariant-loop decreases-loop
returns-3 c =
    let l = c.before.before in
    sym (l.loop-id.invariant ∙ none_left _ (by_cursor_lem _ _ End (sym c.header_at.ensures ∙ c.in-End.is)).1)

pub are_known_spec : {M : Type 1} → statement M
are_known_spec =
    tie.close
    (tie.spec
    invariant-loop
    decreases-loop
    loop-holds
    header-at-requires
    enum-known-id
    sub-is-known
    part-is-known-start
    part-is-known-end
    is-known-requires
    returns
    loop-less
    loop-again
    enum_told
    returns-2
    enum-told-2
    returns-3)
