-- The laws of first bytes and opcodes: what is written reads back, and `same` is equality. Assumes nothing.
use mathlib.Core.Path.{◌≡◌, refl, sym, ap, ◌∙◌, subst}
use mathlib.Core.Bool.{Bool, true, false, ◌&&◌, ◌||◌, and-eq-true_iff}
use Prim.Native.Nat.{ℕ, zero, suc, ◌%◌, ◌≤◌, ◌<◌}
use native.Mathlib.Omega.{arith}
use borrow.Author.Tests.{ne_eqb, eq-eqb, eqb-true, le-leb, lt-leb}
use lib.Dec.{T, eqb, leb, leb→le}
use Rattle.base.specs.Pick.{pick}
use Rattle.base.proofs.Below.{and_left, and_right}
use Rattle.packet.specs.declared.opcode.FirstByte.{FirstByte}
use Rattle.std.specs.Prelude.{Option, Some, None, Ok, Err}
use Rattle.std.specs.Result.{result_ok}
use Rattle.packet.specs.declared.opcode.UnknownOpcode.{UnknownOpcode}
use Rattle.packet.specs.declared.opcode.Opcode.{Opcode}
use Rattle.packet.specs.declared.opcode.Opcode.TheVariants.{Connect, Disconnect, Put, Get, SetPath, Action, Session, Abort, UserDefined}
use Rattle.packet.specs.FirstByte.{known_byte, named, opcode_numbered, first_byte, entry_says, value_of, always_final, top_bit, byte_of, kind_of, same_opcode}
use Rattle.base.proofs.Below.{at_each}

-- ---- proved cases P1 and P2 (docs/PROTOCOL.md#first-byte)

p1 : first_byte 0xE2 ≡ known_byte Put true
unfolding first_byte named
p1 = refl

p1_not-final : first_byte 0x22 ≡ known_byte Put false
unfolding first_byte named
p1_not-final = refl

p2 : first_byte 0x7F ≡ known_byte Abort false
unfolding first_byte named
p2 = refl

p2_final : first_byte 0xFF ≡ known_byte Abort true
unfolding first_byte named
p2_final = refl

p2_user : first_byte 0x1F ≡ known_byte (UserDefined 0x1F) false
unfolding first_byte named
p2_user = refl

-- ---- what an entry of the table says, by the opcode with its number

abbrev pub told : Bool → Option Opcode → Option FirstByte
told final (Some o) = known_byte o final
told final None = None

pub entry-told : (n : ℕ) → entry_says n ≡ told (leb 0x80 n) (result_ok (opcode_numbered (n % 128)))
unfolding entry_says named opcode_numbered
entry-told n =
    let x = n % 128 in
    go (leb 0x80 n) x (eqb x 0x7F) (eqb x 0x00) (eqb x 0x01) (eqb x 0x02) (eqb x 0x03) (eqb x 0x05) (eqb x 0x06) (eqb x 0x07) (leb 0x10 x && leb x 0x1F)
  where
    go : (z : Bool) (y : ℕ) (i a b c d e f g u : Bool)
        → pick i (known_byte Abort z)
        (pick a (known_byte Connect z)
        (pick b (known_byte Disconnect z)
        (pick c (known_byte Put z)
        (pick d (known_byte Get z)
        (pick e (known_byte SetPath z)
        (pick f (known_byte Action z)
        (pick g (known_byte Session z)
        (pick u (known_byte (UserDefined y) z) None))))))))
        ≡ told z (result_ok {E = UnknownOpcode} (pick i (Ok Abort)
        (pick a (Ok Connect)
        (pick b (Ok Disconnect)
        (pick c (Ok Put)
        (pick d (Ok Get)
        (pick e (Ok SetPath)
        (pick f (Ok Action)
        (pick g (Ok Session)
        (pick u (Ok (UserDefined y)) (Err (record {}))))))))))))
    go z y true a b c d e f g u = refl
    go z y false true b c d e f g u = refl
    go z y false false true c d e f g u = refl
    go z y false false false true d e f g u = refl
    go z y false false false false true e f g u = refl
    go z y false false false false false true f g u = refl
    go z y false false false false false false true g u = refl
    go z y false false false false false false false true u = refl
    go z y false false false false false false false false true = refl
    go z y false false false false false false false false false = refl

-- ---- what is read and written

-- a UserDefined's value is from 0x10 to 0x1F
abbrev pub fair : Opcode → Bool
fair o = eqb (kind_of o) 0 || (leb 0x10 (value_of o) && leb (value_of o) 0x1F)

abbrev fair_in : Option FirstByte → Bool
fair_in (Some b) = fair b.opcode
fair_in None = true

-- an opcode that was read has such a value: one test over the 256 bytes
pub read-fair : (b : ℕ) → b < 256 → (o : Opcode) (final : Bool) → first_byte b ≡ known_byte o final → T (fair o)
unfolding first_byte named
read-fair b h o final e = subst (λ (r : Option FirstByte). T (fair_in r)) e (at_each (λ b. fair_in (first_byte b)) 256 tt b h)

user-named : (x : ℕ) (final : Bool) → 0x10 ≤ x → x ≤ 0x1F → named x final ≡ known_byte (UserDefined x) final
unfolding named
user-named x final a b =
    simp (
      ne_eqb x 0 (λ q. omega arith),
      ne_eqb x 1 (λ q. omega arith),
      ne_eqb x 2 (λ q. omega arith),
      ne_eqb x 3 (λ q. omega arith),
      ne_eqb x 5 (λ q. omega arith),
      ne_eqb x 6 (λ q. omega arith),
      ne_eqb x 7 (λ q. omega arith),
      le-leb 0x10 x a,
      le-leb x 0x1F b,
    )

user-read : (x b : ℕ) → b % 128 ≡ x → 0x10 ≤ x → x ≤ 0x1F → first_byte b ≡ known_byte (UserDefined x) (leb 0x80 b)
unfolding first_byte
user-read x b e l h =
    let m : b % 32 ≡ x = omega arith in
    rw (e, ne_eqb x 0x7F (λ (q : x ≡ 0x7F). omega arith), m, user-named x (leb 0x80 b) l h)

user-back : (x : ℕ) (final : Bool) → 0x10 ≤ x → x ≤ 0x1F
    → first_byte (byte_of (UserDefined x) final) ≡ known_byte (UserDefined x) (final || false)
unfolding byte_of
user-back x true l h = user-read x (top_bit x) (omega arith) l h ∙ ap (known_byte (UserDefined x)) (le-leb 0x80 (top_bit x) (omega arith))
user-back x false l h = user-read x x (omega arith) l h ∙ ap (known_byte (UserDefined x)) (lt-leb 0x80 x (omega arith))

-- what was written reads as the opcode, final where it was written so or is always so
pub read_back : (o : Opcode) (final : Bool) → T (fair o) → first_byte (byte_of o final) ≡ known_byte o (final || always_final o)
unfolding first_byte named byte_of
read_back Connect true t = refl
read_back Connect false t = refl
read_back Disconnect true t = refl
read_back Disconnect false t = refl
read_back Put true t = refl
read_back Put false t = refl
read_back Get true t = refl
read_back Get false t = refl
read_back SetPath true t = refl
read_back SetPath false t = refl
read_back Action true t = refl
read_back Action false t = refl
read_back Session true t = refl
read_back Session false t = refl
read_back Abort true t = refl
read_back Abort false t = refl
read_back (UserDefined x) final t =
    user-back x final (leb→le 0x10 x (and_left (leb 0x10 x) (leb x 0x1F) t)) (leb→le x 0x1F (and_right (leb 0x10 x) (leb x 0x1F) t))

-- ---- the same opcode

opcode_of : ℕ → ℕ → Opcode
opcode_of zero v =
    pick (eqb v 0x00) Connect
    (pick (eqb v 0x01) Disconnect
    (pick (eqb v 0x02) Put
    (pick (eqb v 0x03) Get
    (pick (eqb v 0x05) SetPath
    (pick (eqb v 0x06) Action
    (pick (eqb v 0x07) Session
    Abort))))))
opcode_of (suc k) v = UserDefined v

of_its_own : (o : Opcode) → opcode_of (kind_of o) (value_of o) ≡ o
unfolding opcode_of
of_its_own Connect = refl
of_its_own Disconnect = refl
of_its_own Put = refl
of_its_own Get = refl
of_its_own SetPath = refl
of_its_own Action = refl
of_its_own Session = refl
of_its_own Abort = refl
of_its_own (UserDefined x) = refl

-- `same` holds of equal opcodes alone
pub same-equal : (a b : Opcode) → same_opcode a b ≡ true → a ≡ b
unfolding same_opcode
same-equal a b e =
    let h = (and-eq-true_iff (eqb (kind_of a) (kind_of b)) (eqb (value_of a) (value_of b))).0 e in
    sym (of_its_own a)
    ∙ ap (λ (k : ℕ). opcode_of k (value_of a)) (eqb-true (kind_of a) (kind_of b) h.0)
    ∙ ap (opcode_of (kind_of b)) (eqb-true (value_of a) (value_of b) h.1)
    ∙ of_its_own b

pub same_self : (a : Opcode) → same_opcode a a ≡ true
unfolding same_opcode
same_self a = rw (eq-eqb (kind_of a) (kind_of a) refl, eq-eqb (value_of a) (value_of a) refl)
