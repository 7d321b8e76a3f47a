-- `client_c::words::await_of` meets its contract. Each arm is a test of the definition; the last arm is what all tests leave. Assumes nothing.
use borrow.Author.Tests.{ne_eqb}
use Rattle.client_c.specs.Words.{await_of}
use Rattle.client_c.proofs.words.await_of.Goals as goal

pub returns-in-0 : goal.returns-in-0
unfolding await_of
returns-in-0 c = simp c.in-0.is

pub returns-in-1 : goal.returns-in-1
unfolding await_of
returns-in-1 c = simp c.in-1.is

pub returns-in-2 : goal.returns-in-2
unfolding await_of
returns-in-2 c = simp c.in-2.is

pub returns-in-3 : goal.returns-in-3
unfolding await_of
returns-in-3 c = simp c.in-3.is

pub returns-in-4 : goal.returns-in-4
unfolding await_of
returns-in-4 c = simp c.in-4.is

pub returns-in_default : goal.returns-in_default
unfolding await_of
returns-in_default c =
    simp (
      ne_eqb c.args.n 0 c.in_default.in_default-own.rest.0.0.0.0.1,
      ne_eqb c.args.n 1 c.in_default.in_default-own.rest.0.0.0.1,
      ne_eqb c.args.n 2 c.in_default.in_default-own.rest.0.0.1,
      ne_eqb c.args.n 3 c.in_default.in_default-own.rest.0.1,
      ne_eqb c.args.n 4 c.in_default.in_default-own.rest.1,
    )
