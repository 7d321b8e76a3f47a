-- `filing::users::password_for` meets its contract: it is the value behind a user id. Assumes nothing.
use Rattle.filing.specs.Users.{password_for}
use Rattle.filing.proofs.users.password_for.Goals as goal

pub returns : goal.returns
unfolding password_for
returns c = record { value = c.value_of.ensures.value; room = c.value_of.ensures.room }
