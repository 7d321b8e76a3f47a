-- The frames of a log stand for its entries, and the first one for the settings. Assumes nothing.
use Prim.Native.Nat.{ℕ, ◌/◌, ◌%◌, ◌≤◌}
use mathlib.Core.Path.{◌≡◌, refl, ap, ap₂, ◌∙◌}
use mathlib.Core.Bool.{Bool, true, false, ◌||◌}
use mathlib.Core.List.{List, [], ◌∷◌, ◌++◌}
use native.Mathlib.Omega.{arith}
use lib.Dec.{eqb}
use lib.ListN.{get_or}
use Rattle.base.specs.Pick.{pick}
use Rattle.archive.specs.Block.{same}
use Rattle.journal.specs.Checks.{bit}
use Rattle.filing.specs.Entries.{LogEntry, received, sent, answered, object, checked, nonce, closed, ended}
use Rattle.filing.specs.Kinds.{id_bytes, ids_in, AllIds, content_for, end_in, entry_in, entries_in, FitsFrame, nothing, entry, beside, OpenFrame, open_flags, open_row, is_set, settings_in}
use Rattle.filing.proofs.Framed.{number-back}
use Rattle.filing.specs.ReadBack.{entry_with}
use Rattle.filing.specs.declared.frame.Kind.TheVariants.{Open, Recv, Part, Sent, Answ, Objt, Pass, Nonc, Clos, File, Fail, Done}
use Rattle.filing.specs.declared.entry.EntryRead.TheVariants.{End, Nothing}
use Rattle.filing.specs.Claims.{EntriesBack, RowOpens, SettingsBack, KindsRead, EntryReads}

ids-back : (l : List ℕ) → AllIds l → ids_in (id_bytes l) ≡ l
unfolding ids_in
ids-back [] a = refl
ids-back (x ∷ l) a = ap₂ (λ (y : ℕ) (m : List ℕ). y ∷ m) (number-back x a.0) (ids-back l a.1)

end_back : (b : Bool) → end_in (pick b 2 1) ≡ ended ∷ []
end_back true = refl
end_back false = refl

entry-back : (e : LogEntry) (t : ℕ) (more : List ℕ) → FitsFrame e → entry_in (content_for e t more) ≡ e ∷ []
unfolding entry_in same
entry-back (received p) t more f = refl
entry-back (sent b) t more f = refl
entry-back (answered code hs) t more f = refl
entry-back object t more f = refl
entry-back (checked true) t more f = refl
entry-back (checked false) t more f = refl
entry-back (nonce n) t more f = refl
entry-back (closed l) t more f = ap (λ (m : List ℕ). closed m ∷ []) (ids-back l f)
entry-back ended t more f = end_back (eqb (get_or more 0 0) 2)

pub entries-back : EntriesBack
entries-back es cs nothing = refl
entries-back es cs (entry e t more {es = fs} {cs = ds} f r) =
    ap₂ (λ (a b : List LogEntry). a ++ b) (entry-back e t more f) (entries-back fs ds r)
entries-back es cs (beside c {cs = ds} i r) = ap (λ (a : List LogEntry). a ++ entries_in ds) i ∙ entries-back es ds r

-- ---- the first frame

pub row_opens : RowOpens
unfolding open_row
row_opens n f more = refl

bit_most : (b : Bool) → bit b ≤ 1
bit_most true = omega arith
bit_most false = omega arith

bit_is : (b : Bool) (n : ℕ) → n ≡ bit b → eqb n 1 ≡ b
bit_is true n e = ap (λ (k : ℕ). eqb k 1) e
bit_is false n e = ap (λ (k : ℕ). eqb k 1) e

module _ (o : OpenFrame) where
  srm_is : is_set 1 (open_flags o) ≡ o.srm
  srm_is = bit_is o.srm (open_flags o / 1 % 2) (omega (arith, bit_most o.srm))

  authentication_is : is_set 2 (open_flags o) ≡ o.authentication
  authentication_is = bit_is o.authentication (open_flags o / 2 % 2) (omega (arith, bit_most o.srm, bit_most o.authentication))

  asks_is : is_set 4 (open_flags o) ≡ o.asks_user
  asks_is = bit_is o.asks_user (open_flags o / 4 % 2) (omega (arith, bit_most o.srm, bit_most o.authentication, bit_most o.asks_user))

  enforces_is : is_set 16 (open_flags o) ≡ o.enforces_user
  enforces_is =
      bit_is o.enforces_user (open_flags o / 16 % 2)
      (omega (arith, bit_most o.srm, bit_most o.authentication, bit_most o.asks_user, bit_most o.read_only_of, bit_most o.enforces_user))

  refuses_is : is_set 32 (open_flags o) ≡ o.refuses
  refuses_is =
      bit_is o.refuses (open_flags o / 32 % 2)
      (omega (
        arith,
        bit_most o.srm,
        bit_most o.authentication,
        bit_most o.asks_user,
        bit_most o.read_only_of,
        bit_most o.enforces_user,
        bit_most o.refuses,
      ))

pub settings-back : SettingsBack
unfolding settings_in
settings-back o h = rw (number-back o.limit h, srm_is o, authentication_is o, asks_is o, enforces_is o, refuses_is o) refl

-- ---- frames as the code reads them

pub kinds_read : KindsRead
kinds_read Open = refl
kinds_read Recv = refl
kinds_read Part = refl
kinds_read Sent = refl
kinds_read Answ = refl
kinds_read Objt = refl
kinds_read Pass = refl
kinds_read Nonc = refl
kinds_read Clos = refl
kinds_read File = refl
kinds_read Fail = refl
kinds_read Done = refl

end-told : (b : Bool) (p : List ℕ) → entry_with (pick b End Nothing) p ≡ pick b (ended ∷ []) []
end-told true p = refl
end-told false p = refl

pub entry-reads : EntryReads
unfolding entry_in same
entry-reads Open t p = refl
entry-reads Recv t p = refl
entry-reads Part t p = refl
entry-reads Sent t p = refl
entry-reads Answ t p = refl
entry-reads Objt t p = refl
entry-reads Pass t p = refl
entry-reads Nonc t p = refl
entry-reads Clos t p = refl
entry-reads File t p = refl
entry-reads Fail t p = refl
entry-reads Done t p = end-told (eqb (get_or p 0 0) 1 || eqb (get_or p 0 0) 2) p
