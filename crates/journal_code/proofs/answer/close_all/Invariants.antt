-- `journal_code::answer::close_all` meets its contract: each turn closes one id more, and what is still to be closed decides what is
-- left (proofs/Closes).
use Rattle.std.specs.Slice.Iter.{chunks_exact_rest, chunks_exact_size}
use Rattle.std.proofs.Common.{◌≡◌}
use Rattle.journal_code.proofs.Closes.{Closing}
use Rattle.journal_code.proofs.answer.close_all.Given as goal

abbrev pub invariant-loop-id : goal.invariant-loop-id
invariant-loop-id l =
    (chunks_exact_size l.id-iterator ≡ 4)
    × Closing l.ids l.count l.initial.tables (chunks_exact_rest l.id-iterator) l.left l.tables
