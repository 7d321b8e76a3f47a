-- The files of user ids and passwords: a user id, a tab and a password in a line.
use Rattle.std.specs.Prelude.{ℕ, List}
use Rattle.std.proofs.Math.Option.{Option}
use Rattle.filing.specs.Lines.{up_to, lines_of, value_for}

-- The password of a user id: that of the first line with it. The user id of no bytes stands for responses that name none.
unfoldable pub password_for : List ℕ → List ℕ → Option (List ℕ)
password_for text user = value_for 9 user (lines_of text)

-- The user id of the first line, for the file of the receiver's own password.
unfoldable pub first_user : List ℕ → List ℕ
first_user text = up_to 9 (up_to 10 text)
