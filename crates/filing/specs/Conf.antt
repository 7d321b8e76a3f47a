-- The settings of a receiver, as an operator writes them to FOLDER/conf: in each line a word, a space and a value. An empty line says nothing, and
-- neither
-- does one that begins with `#`. Of two lines with one word the first holds. What no line says has the value that stands in `conf_of`.
use Rattle.std.specs.Prelude.{ℕ, ◌+◌, ◌-◌, ◌*◌, ◌%◌, Bool, true, false, not, ◌&&◌, ◌||◌, List, [], ◌∷◌, eqb, leb, ltb, length, get_or, take, drop}
use Rattle.std.proofs.Math.Option.{Option, none, some}
use Rattle.base.specs.Pick.{pick}
use Rattle.calendar.specs.Time.{is_digit_of}
use Rattle.table.specs.Targets.{is_named}
use Rattle.table.specs.declared.targets.Target.{Target}
use Rattle.packet.specs.Auth.{same}
use Rattle.packet.specs.Header.{present}
use Rattle.files.specs.Path.{service_folder}
use Rattle.filing.specs.Lines.{bytes, up_to, behind, lines_of, value_for}
use Rattle.filing.specs.declared.payload.OpenNumbers.{OpenNumbers}
use Rattle.filing.specs.declared.payload.OpenFlags.{OpenFlags}
use Rattle.filing.specs.declared.conf.Conf.{Conf}
use Rattle.filing.specs.declared.conf.Realm.{Realm}

-- ---- the settings that a text says

-- The value that is said, or no bytes if none is.
abbrev pub or_none : Option (List ℕ) → List ℕ
or_none none = []
or_none (some v) = v

-- What a text says behind a word; no bytes if no line has the word.
unfoldable pub said : List ℕ → List ℕ → List ℕ
said text w = or_none (value_for 0x20 w (lines_of text))

-- The text says this value behind a word.
abbrev pub is_said : List ℕ → List ℕ → List ℕ → Bool
is_said text w v = same (said text w) v

-- A number with one more decimal digit. What is no number, or has six digits or more, is a million.
unfoldable pub digit_next : ℕ → ℕ → ℕ
digit_next n b = pick (is_digit_of b && ltb n 100000) (n * 10 + (b - 0x30)) 1000000

unfoldable pub digits_from : ℕ → List ℕ → ℕ
digits_from n [] = n
digits_from n (b ∷ v) = digits_from (digit_next n b) v

-- The number that a value is. No bytes are no number.
unfoldable pub number_of : List ℕ → ℕ
number_of v = pick (eqb (length v) 0) 1000000 (digits_from 0 v)

-- The number that is said, at most `most`, or `default` if none is.
unfoldable pub number_said : List ℕ → ℕ → ℕ → ℕ
number_said v default most = pick (eqb (length v) 0) default (pick (leb (number_of v) most) (number_of v) most)

-- ---- which lines are wrong

-- A line is one of those of a text, which have a tab behind them.
unfoldable pub is_in : List ℕ → List ℕ → Bool
is_in text l = present (value_for 9 l (lines_of text))

-- The line says one of several values.
unfoldable pub is_choice : List ℕ → Bool
is_choice l =
    pick (is_in (bytes "srm yes\t\nsrm no\t\npassword no\t\npassword required\t\nread-only no\t\nread-only yes\t\n") l) true
    (is_in
    (bytes "user-id no\t\nuser-id asked\t\nuser-id enforced\t\ntrailing refused\t\ntrailing taken\t\nrecords any\t\nrecords none\t\n") l)

-- A byte is a digit of a Target: 0 to 9, a to f.
unfoldable pub is_hex : ℕ → Bool
is_hex b = (leb 0x30 b && leb b 0x39) || (leb 0x61 b && leb b 0x66)

unfoldable pub all_hex : List ℕ → Bool
all_hex [] = true
all_hex (b ∷ s) = pick (is_hex b) (all_hex s) false

-- A value is a Target of 1 to 16 bytes.
unfoldable pub right_target : List ℕ → Bool
right_target v = pick (ltb (length v) 2) false (pick (ltb 32 (length v)) false (pick (eqb (length v % 2) 0) (all_hex v) false))

-- A number is a packet limit.
unfoldable pub packet_limit : ℕ → Bool
packet_limit n = pick (ltb n 255) false (leb n 65535)

-- The values of the other words: the Put limit is at most 65,536, a charset is one byte, a realm has at most 254 bytes, the Target of records is
-- one, and
-- the packet limit is at least 255 and at most 65,535.
unfoldable pub right_value : List ℕ → List ℕ → Bool
right_value w v =
    pick (same w (bytes "limit")) (leb (number_of v) 65536)
    (pick (same w (bytes "charset")) (leb (number_of v) 255)
    (pick (same w (bytes "realm")) (leb (length v) 254)
    (pick (same w (bytes "records")) (right_target v)
    (pick (same w (bytes "packet")) (packet_limit (number_of v)) false))))

-- A line is right: it is empty, a comment, or a word with one of its values.
unfoldable pub right_line : List ℕ → Bool
right_line l =
    pick (eqb (length l) 0) true
    (pick (eqb (get_or l 0 0) 0x23) true
    (pick (is_choice l) true
    (pick (ltb (length (up_to 0x20 l)) (length l)) (right_value (up_to 0x20 l) (behind 0x20 l)) false)))

-- The number of the first wrong line, counted on from `n`; 0 if all are right.
unfoldable pub wrong_from : ℕ → List (List ℕ) → ℕ
wrong_from n [] = 0
wrong_from n (l ∷ ls) = pick (right_line l) (wrong_from (n + 1) ls) n

-- ---- the whole

-- The realm that counts: its first 254 bytes.
pub record RealmIs : Type 0 where
  pub size : ℕ
  pub value : List ℕ

abbrev pub realm_said : List ℕ → RealmIs
realm_said text = record { size = length (take 254 (said text (bytes "realm"))); value = take 254 (said text (bytes "realm")) }

-- The challenges ask for a user id if it is asked for or enforced.
abbrev pub user_asked : List ℕ → Bool
user_asked text = pick (is_said text (bytes "user-id") (bytes "asked")) true (is_said text (bytes "user-id") (bytes "enforced"))

-- The flags; SRM is granted and what trails a Put that was too long is refused unless the text says otherwise.
abbrev pub flags_said : List ℕ → Bool → OpenFlags
flags_said text has_realm_of =
    record {
      srm = not (is_said text (bytes "srm") (bytes "no"));
      authentication = is_said text (bytes "password") (bytes "required");
      asks_user = user_asked text;
      read_only = is_said text (bytes "read-only") (bytes "yes");
      enforces_user = is_said text (bytes "user-id") (bytes "enforced");
      refuses = not (is_said text (bytes "trailing") (bytes "taken"));
      has_realm = has_realm_of;
    }

-- The settings: what the first frame of a log says of them, and the realm's bytes. They hold if no line is wrong.
pub record ConfSays : Type 0 where
  pub wrong : ℕ
  pub numbers : OpenNumbers
  pub flags : OpenFlags
  pub realm : List ℕ

unfoldable pub conf_of : List ℕ → ConfSays
conf_of text =
    record {
      wrong = wrong_from 1 (lines_of text);
      numbers =
          record {
            limit = number_said (said text (bytes "limit")) 49152 65536;
            packet = number_said (said text (bytes "packet")) 65535 65535;
            charset = number_said (said text (bytes "charset")) 0 255;
            realm = (realm_said text).size;
          };
      flags = flags_said text (ltb 0 (realm_said text).size);
      realm = (realm_said text).value;
    }

-- What the code gives, whose realm is a place of the text.
abbrev pub realm_at_of : List ℕ → Realm → RealmIs
realm_at_of text r = record { size = r.length; value = take r.length (drop r.at text) }

abbrev pub settings : List ℕ → Conf → ConfSays
settings text c = record { wrong = c.wrong; numbers = c.numbers; flags = c.flags; realm = take c.numbers.realm (drop c.realm_at text) }

-- ---- whose Puts are records

-- `records`.
abbrev pub records_word : List ℕ
records_word = bytes "records"

-- Puts under a Target are records if nothing or `any` is said, or this Target in hexadecimal, as in the name of its service's folder.
unfoldable pub records_taken : List ℕ → Target → Bool
records_taken v g = pick (eqb (length v) 0) true (pick (same v (bytes "any")) true (is_named g && same v (drop 8 (service_folder g))))
