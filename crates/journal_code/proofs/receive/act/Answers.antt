-- `journal_code::receive::act` meets its contract: by its way the packet ends the session, leaves something open, or is gathered.
use mathlib.Core.Path.{sym, ap, ◌∙◌}
use Rattle.connection.specs.Pieces.{headers_from}
use Rattle.incoming.specs.Gather.{Gathering, gathering, gather_all}
use Rattle.incoming.specs.declared.gather.Gathered.{Gathered}
use Rattle.incoming.specs.declared.gather.Keep.TheVariants as keep
use Rattle.journal_code.specs.declared.route.Route.{Route}
use Rattle.journal_code.specs.Receive.{put_step, act_step}
use Rattle.journal_code.proofs.receive.act.Goals as goal

pub gather-g-requires : goal.gather-g-requires
gather-g-requires c =
    let k = c in
    let l = c in
    (c.requires.0, c.begun_of-begun.ensures.within.0 c.requires.3, c.requires.1, c.begun_of-begun.ensures.within.1 c.requires.4, c.requires.2)

pub returns-in-Stop : goal.returns-in-Stop
returns-in-Stop c =
    let k = c in
    rw c.ended_with.ensures
    (sym (ap (λ (v : Route). act_step v c.args.s c.args.h
    (headers_from c.args.p.now c.args.h.headers) c.args.headers.now
    c.args.body.now)
    (sym c.heading_route.ensures ∙ c.in-Stop.is)))

pub returns-in-Become : goal.returns-in-Become
returns-in-Become c =
    let k = c in
    rw c.after_packet.ensures
    (sym (ap (λ (v : Route). act_step v c.args.s c.args.h
    (headers_from c.args.p.now c.args.h.headers)
    c.args.headers.now c.args.body.now)
    (sym c.heading_route.ensures ∙ c.in-Become.is)))

pub returns-in-Put : goal.returns-in-Put
returns-in-Put c =
    let k = c in
    let l = c in
    let j = c in
    rw c.put_state.ensures
    (ap (λ (g : Gathering). put_step c.args.s c.args.h c.in-Put.srm c.in-Put.next g)
    (c.gather-g.ensures.model
    ∙ ap (λ (b : Gathered). gather_all keep.Put c.args.s.settings.limit
    (headers_from c.args.p.now c.args.h.headers)
    (gathering b c.args.headers.now c.args.body.now))
    c.begun_of-begun.ensures.value)
    ∙ sym (ap (λ (v : Route). act_step v c.args.s c.args.h
    (headers_from c.args.p.now c.args.h.headers) c.args.headers.now c.args.body.now)
    (sym c.heading_route.ensures ∙ c.in-Put.is)))
