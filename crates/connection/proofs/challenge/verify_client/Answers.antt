-- `connection::challenge::verify_client` meets its contract. The two values are taken apart, and each failure is the definition's. Assumes nothing.
use Rattle.connection.proofs.challenge.verify_client.Goals as goal

pub returns-then-not-has_password : goal.returns-then-not-has_password
returns-then-not-has_password c = rw (c.in-Some.is, c.in-Some-found.is, c.if-not-has_password.true)

pub returns : goal.returns
returns c = rw (c.in-Some.is, c.in-Some-found.is, c.if-not-has_password.false) c.verify.ensures
