-- `engine_c::words::operation_of` meets its contract. Each arm is a test of the definition; the last arm is what all tests leave. Assumes nothing.
use Rattle.engine_c.specs.Words.{operation_of}
use borrow.Author.Tests.{ne_eqb}
use borrow.Author.Rules.{rules}
use Rattle.engine_c.proofs.words.operation_of.Goals as goal

pub returns-in-1 : goal.returns-in-1
unfolding operation_of
returns-in-1 c = simp (c.is_set.ensures, c.gathered_of.ensures, c.in-1.is)

pub returns-in-2 : goal.returns-in-2
unfolding operation_of
returns-in-2 c =
    simp (
      c.is_set-in-2-3.ensures,
      c.is_set-in-2-2.ensures,
      c.is_set-in-2.ensures,
      c.gathered_of-in-2.ensures,
      c.in-2.is,
    )

pub returns-in-3 : goal.returns-in-3
unfolding operation_of
returns-in-3 c =
    simp (
      c.is_set-in-3-2.ensures,
      c.is_set-in-3.ensures,
      c.chunk_of.ensures,
      c.outgoing_of.ensures,
      c.in-3.is,
    )

pub returns-in-4 : goal.returns-in-4
unfolding operation_of
returns-in-4 c = simp (c.gathered_of-in-4.ensures, c.opcode_of.ensures, c.in-4.is)

pub returns-in-5 : goal.returns-in-5
unfolding operation_of
returns-in-5 c = simp (c.size.ensures, c.id_of.ensures, c.in-5.is)

pub returns-in-6 : goal.returns-in-6
unfolding operation_of
returns-in-6 c = simp c.in-6.is

pub returns-in-7 : goal.returns-in-7
unfolding operation_of
returns-in-7 c = simp c.in-7.is

pub returns-in_default : goal.returns-in_default
unfolding operation_of
returns-in_default c =
    simp (
      ne_eqb c.args.n.kind 1 (search rules),
      ne_eqb c.args.n.kind 2 (search rules),
      ne_eqb c.args.n.kind 3 (search rules),
      ne_eqb c.args.n.kind 4 (search rules),
      ne_eqb c.args.n.kind 5 (search rules),
      ne_eqb c.args.n.kind 6 (search rules),
      ne_eqb c.args.n.kind 7 (search rules),
    )
