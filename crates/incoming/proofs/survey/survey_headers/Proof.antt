-- `incoming::survey::survey_headers` meets its contract. The invariant: what is noted, and what is left from here on, give the whole survey.
use borrow.Author.Rules.{rules}
use native.Mathlib.Omega.{arith}
use Prim.Native.Nat.{◌-◌}
use mathlib.Core.Path.{◌≡◌, sym, ap, ◌∙◌}
use lib.ListN.{length}
use Rattle.packet.specs.declared.header.HeaderAt.TheVariants.{Unreadable, End}
use Rattle.packet.specs.Header.{read_headers}
use Rattle.packet.proofs.HeaderLaws.{Here, by_cursor_lem}
use Rattle.incoming.specs.declared.survey.Noted.{Noted}
use Rattle.incoming.specs.Survey.{survey_of}
use Rattle.incoming.proofs.Notes.{survey_left, lengths, begins, goes_on, ends}
use Rattle.incoming.proofs.survey.survey_headers.Statement.{statement}
use Rattle.incoming.proofs.survey.survey_headers.Tie as tie

abbrev invariant-loop : tie.invariant-loop-id
invariant-loop p from n₀ at₀ n at = survey_of (read_headers p from) ≡ survey_left n (read_headers p at)

abbrev decreases-loop : tie.decreases-loop-id
decreases-loop p from n₀ at₀ n at = length p - at

loop-holds : tie.Need-loop-id-init invariant-loop decreases-loop
loop-holds c = begins (read_headers c.args.p.now c.args.from)

step-requires : tie.Need-step-requires invariant-loop decreases-loop
step-requires c κs = search rules

enum-known-id : tie.Need-enum_known-id invariant-loop decreases-loop
enum-known-id c = search rules

-- in a turn that goes on, a header stands at the place
here : (c : tie.In-At invariant-loop decreases-loop) →
    let v = c.in-At in
    Here c.args.p.now c.loop-id.at v.id v.encoding v.start v.«end»
here c = by_cursor_lem _ _ _ (sym c.step.ensures ∙ c.in-At.is)

sub-note : tie.Need-slice_bounds-note-count invariant-loop decreases-loop
sub-note c = let h = here c in omega arith

part-note-start : tie.Need-slice_bounds-note-start invariant-loop decreases-loop
part-note-start c = let h = here c in omega arith

part-note-end : tie.Need-slice_bounds-note-end invariant-loop decreases-loop
part-note-end c = let h = here c in omega arith

note-requires : tie.Need-note-n-requires invariant-loop decreases-loop
note-requires c κs = lengths _ _ _ _ _ _ (here c.before).stands

loop-less : tie.Need-loop-id-smaller invariant-loop decreases-loop
loop-less c = let h = here c.before.before in omega arith

loop-again : tie.Need-loop-id-preserved invariant-loop decreases-loop
loop-again c =
    let k = c.before.before in
    let l = k.loop-id in
    let s = read_headers k.args.p.now k.in-At.end in
    l.invariant ∙ ap (survey_left l.n) (here k).list ∙ goes_on l.n _ s ∙ ap (λ (n : Noted). survey_left n s) (sym c.note-n.ensures)

enum_told : tie.Need-enum_told-1 invariant-loop decreases-loop
enum_told c = search rules

unreadable-requires : tie.Need-unreadable-requires invariant-loop decreases-loop
unreadable-requires c κs = search rules

returns : tie.Need-returns-in-Unreadable invariant-loop decreases-loop
unfolding survey_of
returns c =
    let k = c.before.before in
    let l = k.loop-id in
    let e = by_cursor_lem _ _ Unreadable (sym k.step.ensures ∙ c.in-Unreadable.is) in
    c.unreadable.ensures ∙ sym (l.invariant ∙ ap (survey_left l.n) e)

enum-told-2 : tie.Need-enum_told-in-End invariant-loop decreases-loop
enum-told-2 c = search rules

surveyed-requires : tie.Need-surveyed-requires invariant-loop decreases-loop
surveyed-requires c κs = search rules

returns-2 : tie.Need-returns-in-End invariant-loop decreases-loop
returns-2 c =
    let k = c.before.before in
    let l = k.loop-id in
    let e = (by_cursor_lem _ _ End (sym k.step.ensures ∙ c.in-End.is)).1 in
    c.surveyed.ensures ∙ sym (l.invariant ∙ ap (survey_left l.n) e ∙ ends l.n)

pub survey_headers_spec : {M : Type 1} → statement M
survey_headers_spec =
    tie.close
    (tie.spec
    invariant-loop
    decreases-loop
    loop-holds
    step-requires
    enum-known-id
    sub-note
    part-note-start
    part-note-end
    note-requires
    loop-less
    loop-again
    enum_told
    unreadable-requires
    returns
    enum-told-2
    surveyed-requires
    returns-2)
