-- `engine::guard::same_await` meets its contract: the code compares the numbers that the definition compares.
use Rattle.engine.proofs.guard.same_await.Goals as goal

pub returns : goal.returns
returns c = simp (← c.await_number.ensures, ← c.await_number-2.ensures)
