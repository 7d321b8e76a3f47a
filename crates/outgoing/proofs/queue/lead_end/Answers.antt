-- `outgoing::queue::lead_end` meets its contract: a turn goes over a header that must lead. Assumes nothing.
use Rattle.std.proofs.Common.{◌≡◌, ℕ, List, arith, refl, sym, ◌∙◌}
use Rattle.packet.specs.declared.header.HeaderAt.{HeaderAt}
use Rattle.packet.specs.declared.header.HeaderAt.TheVariants.{At, Unreadable, End}
use Rattle.packet.specs.declared.header.HeaderEncoding.{HeaderEncoding}
use Rattle.packet.specs.Header.{header_at_of}
use Rattle.packet.proofs.HeaderBytes.{header_at_within}
use Rattle.outgoing.specs.Queue.{lead_end}
use Rattle.outgoing.proofs.Walking.{lead-step}
use Rattle.outgoing.proofs.queue.lead_end.Goals as goal

pub loop-id-smaller : goal.loop-id-smaller
loop-id-smaller c = let h = header_at_within _ _ _ _ _ _ (sym c.in-At.ensures) in omega arith

pub loop-id-preserved : goal.loop-id-preserved
loop-id-preserved c =
    record {
      the_same = c.loop-id.invariant.the_same ∙ lead-step _ _ _ (sym c.in-At.ensures) ∙ rw (sym c.must_lead.ensures ∙ c.if-not-must_lead.false);
      in_range = (header_at_within _ _ _ _ _ _ (sym c.in-At.ensures)).1;
    }

pub returns-then-not-must_lead : goal.returns-then-not-must_lead
returns-then-not-must_lead c = (
  sym (c.loop-id.invariant.the_same ∙ lead-step _ _ _ (sym c.in-At.ensures) ∙ rw (sym c.must_lead.ensures ∙ c.if-not-must_lead.true)),
  c.loop-id.invariant.in_range,
)

-- where no header stands, those that must lead end
ended : (s : List ℕ) (at : ℕ) (a : HeaderAt) → a ≡ header_at_of s at
    → ((id : ℕ) (e : HeaderEncoding) (from to : ℕ) → a ≡ At id e from to → ⊥) → lead_end s at ≡ at
ended s at End e n = lead-step s at End (sym e)
ended s at Unreadable e n = lead-step s at Unreadable (sym e)
ended s at (At id x from to) e n = absurd (n id x from to refl)

pub returns : goal.returns
returns c = (
  sym (c.loop-id.invariant.the_same ∙ ended c.args.s.now c.loop-id.at c.step.result c.step.ensures c.in_default.not-At),
  c.loop-id.invariant.in_range,
)
