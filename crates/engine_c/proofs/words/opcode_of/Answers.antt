-- `engine_c::words::opcode_of` meets its contract. Each arm is a test of the definition; the last arm is what all tests leave. Assumes nothing.
use borrow.Author.Tests.{ne_eqb}
use Rattle.engine_c.specs.Words.{opcode_of}
use borrow.Author.Rules.{rules}
use Rattle.engine_c.proofs.words.opcode_of.Goals as goal

pub returns-in-0 : goal.returns-in-0
unfolding opcode_of
returns-in-0 c = simp c.in-0.is

pub returns-in-1 : goal.returns-in-1
unfolding opcode_of
returns-in-1 c = simp c.in-1.is

pub returns-in-2 : goal.returns-in-2
unfolding opcode_of
returns-in-2 c = simp c.in-2.is

pub returns-in-3 : goal.returns-in-3
unfolding opcode_of
returns-in-3 c = simp c.in-3.is

pub returns-in-4 : goal.returns-in-4
unfolding opcode_of
returns-in-4 c = simp c.in-4.is

pub returns-in-5 : goal.returns-in-5
unfolding opcode_of
returns-in-5 c = simp c.in-5.is

pub returns-in-6 : goal.returns-in-6
unfolding opcode_of
returns-in-6 c = simp c.in-6.is

pub returns-in-7 : goal.returns-in-7
unfolding opcode_of
returns-in-7 c = simp c.in-7.is

pub returns-in_default : goal.returns-in_default
unfolding opcode_of
returns-in_default c =
    simp (
      ne_eqb c.args.n 0 (search rules),
      ne_eqb c.args.n 1 (search rules),
      ne_eqb c.args.n 2 (search rules),
      ne_eqb c.args.n 3 (search rules),
      ne_eqb c.args.n 4 (search rules),
      ne_eqb c.args.n 5 (search rules),
      ne_eqb c.args.n 6 (search rules),
      ne_eqb c.args.n 7 (search rules),
    )
