-- Paths, and the folder of a service (docs/SERVE.md): a connection that was opened with a Target is one to the service of that name.
use Rattle.std.specs.Prelude.{ℕ, ◌+◌, ◌/◌, ◌%◌, List, [], ◌∷◌, ◌++◌, ltb, take}
use Rattle.base.specs.Pick.{pick}
use Rattle.digest.specs.Md5.{octets16}
use Rattle.table.specs.Targets.{is_named}
use Rattle.table.specs.declared.targets.Target.{Target}

-- The path of a name in a folder. If the folder has no name, the path is the name alone.
unfoldable pub in_folder : List ℕ → List ℕ → List ℕ
in_folder [] name = name
in_folder (b ∷ folder) name = (b ∷ folder) ++ (0x2F ∷ name)

-- The hexadecimal digit of a number below 16.
abbrev pub hex_digit : ℕ → ℕ
hex_digit x = pick (ltb x 10) (0x30 + x) (0x57 + x)

-- Some bytes in hexadecimal, two digits each.
unfoldable pub hex_of : List ℕ → List ℕ
hex_of [] = []
hex_of (b ∷ s) = hex_digit (b / 16 % 16) ∷ hex_digit (b % 16) ∷ hex_of s

-- `service-`.
abbrev pub service_word : List ℕ
service_word = 0x73 ∷ 0x65 ∷ 0x72 ∷ 0x76 ∷ 0x69 ∷ 0x63 ∷ 0x65 ∷ 0x2D ∷ []

-- The folder of a service: `service-` and the Target's bytes in hexadecimal. The mark has no folder of its own, so the name is empty.
unfoldable pub service_folder : Target → List ℕ
service_folder g = pick (is_named g) (service_word ++ hex_of (take g.length (octets16 g.bytes))) []
