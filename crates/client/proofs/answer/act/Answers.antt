-- `client::answer::act` meets its contract. The code goes the way that it has found. Assumes nothing.
use native.Mathlib.Omega.{arith}
use mathlib.Core.Path.{refl, ap, ◌∙◌}
use Rattle.packet.specs.Header.{read_headers}
use Rattle.journal.specs.Journal.{list_of}
use Rattle.incoming.specs.Gather.{gathering, gather_all}
use Rattle.incoming.specs.declared.gather.Gathered.{Gathered}
use Rattle.incoming.specs.declared.gather.Keep.TheVariants as keep
use Rattle.client_model.specs.Step.{stores}
use Rattle.client.proofs.Answers.{way-total, by_way, part-call}
use Rattle.client.proofs.answer.act.Goals as goal

pub requests_next-requires : goal.requests_next-requires
requests_next-requires c =
    let args = c.args in
    let pre = c.requires in
    let t = way-total args.c args.h args.c.operation _ _ _ _ c.way_of.ensures c.in-Next.is pre.2 in
    (pre.1, omega (arith, t, pre.3), pre.5)

pub gather-g-requires : goal.gather-g-requires
gather-g-requires c =
    let args = c.args in
    let pre = c.requires in
    let nothing-gathered-says = c.nothing_gathered.ensures in
    let k = ap (λ (g : Gathered). g.kept) nothing-gathered-says in
    let b = ap (λ (g : Gathered). g.body) nothing-gathered-says in
    (pre.0, omega (arith, k), pre.3, omega (arith, b), pre.4)

pub returns-in-Tell : goal.returns-in-Tell
returns-in-Tell c =
    λ q.
    let args = c.args in
    let hs = list_of (read_headers args.p.now args.from) in
    let lent = stores q args.headers.now args.body.now args.request.now in
    by_way args.c args.h args.c.operation args.h.code hs lent _ _ _ c.way_of.ensures c.in-Tell.is
    refl

pub returns-in-Abort : goal.returns-in-Abort
returns-in-Abort c =
    λ q.
    let args = c.args in
    let hs = list_of (read_headers args.p.now args.from) in
    let lent = stores q args.headers.now args.body.now args.request.now in
    by_way args.c args.h args.c.operation args.h.code hs lent _ _ _ c.way_of.ensures
    c.in-Abort.is (c.send_abort.ensures lent)

pub returns-in-Next : goal.returns-in-Next
returns-in-Next c =
    λ q.
    let args = c.args in
    let hs = list_of (read_headers args.p.now args.from) in
    let lent = stores q args.headers.now args.body.now args.request.now in
    by_way args.c args.h args.c.operation args.h.code hs lent _ _ _ c.way_of.ensures c.in-Next.is
    (c.requests_next.ensures q args.body.now)

pub returns-in-Part : goal.returns-in-Part
returns-in-Part c =
    λ q.
    let args = c.args in
    let hs = list_of (read_headers args.p.now args.from) in
    let lent = stores q args.headers.now args.body.now args.request.now in
    by_way args.c args.h args.c.operation args.h.code hs lent _ _ _ c.way_of.ensures c.in-Part.is
    (part-call args.c _ _ args.h.code _ q args.headers.now args.body.now args.request.now _ _ _ _ c.part.ensures
    (c.gather-g.ensures.model ∙ ap (λ (g : Gathered). gather_all keep.Put 65535 hs (gathering g args.headers.now args.body.now))
    c.nothing_gathered.ensures))
