-- `packet::auth::answers_nonce` meets its contract: it goes by the same cases as `answers`. Assumes nothing.
use Rattle.packet.proofs.auth.answers_nonce.Goals as goal

pub returns-in-Some : goal.returns-in-Some
returns-in-Some c = rw c.in-Some.is c.same_octets.ensures
