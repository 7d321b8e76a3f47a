-- `client::guard::same_await` meets its contract. The code compares the numbers that the definition compares. Assumes nothing.
use Rattle.client.proofs.guard.same_await.Goals as goal

pub returns : goal.returns
returns c = simp (← c.await_number.ensures, ← c.await_number-2.ensures)
