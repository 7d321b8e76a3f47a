-- `client_c::words::operation_of` meets its contract. Each arm is a test of the definition; the last arm is what all tests leave. Assumes nothing.
use borrow.Author.Tests.{ne_eqb}
use Rattle.client_c.specs.Words.{operation_of}
use Rattle.client_c.proofs.words.operation_of.Goals as goal

pub returns-in-1 : goal.returns-in-1
unfolding operation_of
returns-in-1 c = simp c.in-1.is

pub returns-in-2 : goal.returns-in-2
unfolding operation_of
returns-in-2 c = simp c.in-2.is

pub returns-in-3 : goal.returns-in-3
unfolding operation_of
returns-in-3 c = simp (c.requesting_of.ensures, c.in-3.is)

pub returns-in-4 : goal.returns-in-4
unfolding operation_of
returns-in-4 c = simp (c.requesting_of-in-4.ensures, c.in-4.is)

pub returns-in-5 : goal.returns-in-5
unfolding operation_of
returns-in-5 c = simp (c.is_set-in-5.ensures, c.is_set.ensures, c.in-5.is)

pub returns-in-6 : goal.returns-in-6
unfolding operation_of
returns-in-6 c = simp c.in-6.is

pub returns-in_default : goal.returns-in_default
unfolding operation_of
returns-in_default c =
    simp (
      ne_eqb c.args.n.kind 1 c.in_default.in_default-own.rest.0.0.0.0.0.1,
      ne_eqb c.args.n.kind 2 c.in_default.in_default-own.rest.0.0.0.0.1,
      ne_eqb c.args.n.kind 3 c.in_default.in_default-own.rest.0.0.0.1,
      ne_eqb c.args.n.kind 4 c.in_default.in_default-own.rest.0.0.1,
      ne_eqb c.args.n.kind 5 c.in_default.in_default-own.rest.0.1,
      ne_eqb c.args.n.kind 6 c.in_default.in_default-own.rest.1,
    )
