-- Some texts of settings and of passwords, and what they say: computed. Assumes nothing.
use mathlib.Core.Path.{◌≡◌, refl}
use mathlib.Core.Bool.{true, false}
use mathlib.Core.List.{[]}
use mathlib.Core.Option.{none, some}
use Rattle.packet.specs.Auth.{same}
use Rattle.filing.specs.Lines.{bytes, up_to, behind, lines_of, under, value_for}
use Rattle.filing.specs.Users.{password_for}
use Rattle.filing.specs.Conf.{said, digit_next, digits_from, number_of, number_said, is_in, is_choice, is_hex, all_hex, right_target, right_value, right_line, wrong_from, conf_of}

-- an empty text: the values that hold if nothing is said
nothing_said : conf_of []
    ≡ record {
      wrong = 0;
      numbers = record { limit = 49152; packet = 65535; charset = 0; realm = 0 };
      flags =
          record {
            srm = true;
            authentication = false;
            asks_user = false;
            read_only = false;
            enforces_user = false;
            refuses = true;
            has_realm = false;
          };
      realm = [];
    }
unfolding conf_of said lines_of value_for same number_said wrong_from
nothing_said = refl

-- some settings, with a comment and an empty line
some-said : conf_of (bytes "# depot 7\n\npassword required\nuser-id enforced\ntrailing taken\nrealm Depot 7")
    ≡ record {
      wrong = 0;
      numbers = record { limit = 49152; packet = 65535; charset = 0; realm = 7 };
      flags =
          record {
            srm = true;
            authentication = true;
            asks_user = true;
            read_only = false;
            enforces_user = true;
            refuses = false;
            has_realm = true;
          };
      realm = bytes "Depot 7";
    }
unfolding conf_of said lines_of value_for under up_to behind same number_said is_in is_choice right_value right_line wrong_from
some-said = refl

-- a number that is said
a_number : number_said (bytes "1024") 49152 65536 ≡ 1024
unfolding digit_next digits_from number_of number_said
a_number = refl

-- the first wrong line: a limit that is too large, a word that is unknown, two spaces, a digit that is none
a_large-limit : wrong_from 1 (lines_of (bytes "srm no\nlimit 65537\n")) ≡ 2
unfolding lines_of value_for under up_to behind same digit_next digits_from number_of is_in is_choice right_value right_line wrong_from
a_large-limit = refl

an_unknown_word : wrong_from 1 (lines_of (bytes "limits 5\n")) ≡ 1
unfolding lines_of value_for under up_to behind same is_in is_choice right_value right_line wrong_from
an_unknown_word = refl

two_spaces : wrong_from 1 (lines_of (bytes "\n# x\nlimit  5\n")) ≡ 3
unfolding lines_of value_for under up_to behind same digit_next digits_from number_of is_in is_choice right_value right_line wrong_from
two_spaces = refl

no_digit : wrong_from 1 (lines_of (bytes "records 72656g\n")) ≡ 1
unfolding lines_of value_for under up_to behind same is_in is_choice is_hex all_hex right_target right_value right_line wrong_from
no_digit = refl

-- the first line of a user id holds, and a line without a tab is none
first_holds : password_for (bytes "crew7\tone\ncrew7\ttwo\n\tnobody\n") (bytes "crew7") ≡ some (bytes "one")
unfolding password_for lines_of value_for under up_to behind same
first_holds = refl

no_user : password_for (bytes "crew7\tone\n\tnobody") [] ≡ some (bytes "nobody")
unfolding password_for lines_of value_for under up_to behind same
no_user = refl

no_tab : password_for (bytes "crew7 one\n") (bytes "crew7 one") ≡ none
unfolding password_for lines_of value_for under up_to behind same
no_tab = refl
