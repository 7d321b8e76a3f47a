-- The writers of digest authentication: what each of their steps leaves in the store, and that what is written reads back.
-- Assumes nothing.
use mathlib.Core.Path.{◌≡◌, refl, sym, ap, ◌∙◌}
use mathlib.Core.Bool.{Bool, true, false, not, ◌&&◌, ◌||◌}
use mathlib.Core.List.{List, [], ◌∷◌, ◌++◌, append-nil, append_assoc}
use mathlib.Core.Option.{Option, none, some}
use Prim.Native.Nat.{ℕ, suc, ◌+◌, ◌≤◌, ◌<◌, ◌^◌}
use native.Mathlib.Omega.{arith}
use lib.ListN.{length, set, length-append}
use lib.Dec.{ltb}
use borrow.Author.Tests.{ltb-false, eq-eqb, ne_eqb}
use native.Mathlib.Numerals.{add-one}
use Rattle.base.specs.Pick.{pick}
use Rattle.digest.specs.Md5.{octets16, request_digest}
use Rattle.digest.specs.declared.md5.Octets16.{Octets16}
use Rattle.digest.proofs.Octets.{length-octets16, numbers-octets}
use Rattle.std.specs.Prelude.{Option as Maybe, Some, None}
use Rattle.packet.specs.declared.auth.DigestResponse.{DigestResponse}
use Rattle.packet.specs.declared.tlv.Wrote.{Wrote}
use Rattle.packet.specs.Tags.{write_tag, write_tags, put_tag}
use Rattle.packet.specs.Placed.{putting}
use Rattle.packet.specs.Auth.{optional_tag, realm_tag, user_tag, challenge_tags, answer_tags, response_tags, response_from, response_of, challenge_from, challenge_of, user_id_required_of, read_only_of, matches, has_user}
use Rattle.packet.specs.Placed.{laid}
use Rattle.packet.specs.Flags.{flag_bits}
use Rattle.packet.specs.AuthRead.{read_response, verifies}
use Rattle.packet.specs.AuthWrite.{given, overlong}
use Rattle.packet.proofs.SameBytes.{same_self}
use Rattle.packet.proofs.LowBits.{flags-read}
use Rattle.packet.proofs.TagWrites.{write_read}
use Rattle.packet.proofs.AuthLaws.{octets-request, length-request, filled-user}
use Rattle.packet.proofs.Laid.{length-laid, laid-append, laid-nothing, three_laid, put-laid}

-- ---- a tag that may be there

pub tag-short : (there : Bool) (v : List ℕ) → there ≡ true → overlong (given there v) ≡ false → length v ≤ 255
tag-short true v e h = ltb-false 255 (length v) h
tag-short false v e h = let z : ◌≡◌ {A = ℕ} 0 1 = cc in absurd (omega arith)

pub tag-none : (t : ℕ) (there : Bool) (d v : List ℕ) (at : ℕ) → there ≡ false → d ≡ laid d at (write_tags (optional_tag t (given there v)))
unfolding write_tags
tag-none t true d v at e = let z : ◌≡◌ {A = ℕ} 0 1 = cc in absurd (omega arith)
tag-none t false d v at e = sym (laid-nothing d at)

pub tag-there : (t : ℕ) (there : Bool) (d v : List ℕ) (at : ℕ) → there ≡ true
    → laid d at (t ∷ length v ∷ v) ≡ laid d at (write_tags (optional_tag t (given there v)))
unfolding write_tags
tag-there t true d v at e = ap (λ (l : List ℕ). laid d at (t ∷ length v ∷ l)) (sym (append-nil v))
tag-there t false d v at e = let z : ◌≡◌ {A = ℕ} 0 1 = cc in absurd (omega arith)

-- its length, and a value that is too long, as the code has them
pub tag-size : (t : ℕ) (there : Bool) (v : List ℕ) → length (write_tags (optional_tag t (given there v))) ≡ pick there (2 + length v) 0
unfolding write_tags
tag-size t true v = omega (arith, ap length (append-nil v))
tag-size t false v = refl

pub tag_fits : (t : ℕ) (there : Bool) (v : List ℕ) (at n : ℕ) → there ≡ true → at + length (write_tags (optional_tag t (given there v))) ≤ n
    → at + 2 + length v ≤ n
tag_fits t there v at n e h =
    let s : length (write_tags (optional_tag t (given there v))) ≡ 2 + length v = tag-size t there v ∙ ap (λ (b : Bool). pick b (2 + length v) 0) e in
    omega arith

pub tag-long : (there : Bool) (v : List ℕ) → (there && ltb 255 (length v)) ≡ overlong (given there v)
tag-long true v = refl
tag-long false v = refl

pub user-length : (there : Bool) (v : List ℕ) → length (write_tags (user_tag (given there v))) ≡ pick there (2 + length v) 0
user-length there v = tag-size 1 there v

-- the realm has its charset in front
pub realm-length : (there : Bool) (v : List ℕ) (charset : ℕ) → length (write_tags (realm_tag (given there (charset ∷ v)))) ≡ pick there (2 + (length v + 1)) 0
realm-length there v charset = tag-size 2 there (charset ∷ v) ∙ ap (λ (n : ℕ). pick there (2 + n) 0) (sym (add-one (length v)))

pub realm-long : (there : Bool) (v : List ℕ) (charset : ℕ) → (there && ltb 255 (length v + 1)) ≡ overlong (given there (charset ∷ v))
realm-long there v charset = ap (λ (n : ℕ). there && ltb 255 n) (add-one (length v)) ∙ tag-long there (charset ∷ v)

pub realm-laid : (there : Bool) (d v : List ℕ) (charset at : ℕ) → there ≡ true → at + 3 + length v ≤ length d
    → laid (set (set (set d at 2) (at + 1) (length v + 1)) (at + 2) charset) (at + 3) v ≡ laid d at (write_tags (realm_tag (given there (charset ∷ v))))
realm-laid there d v charset at e h =
    let n = length v + 1 in
    ap (λ (l : List ℕ). laid l (at + 3) v) (three_laid d at 2 n charset (omega arith))
    ∙ laid-append d (2 ∷ n ∷ charset ∷ []) v at (at + 3) (omega arith) (omega arith)
    ∙ ap (λ (k : ℕ). laid d at (2 ∷ k ∷ charset ∷ v)) (add-one (length v))
    ∙ tag-there 2 there d (charset ∷ v) at e

pub at_most : (x : Bool) (n : ℕ) → pick x n 0 ≤ n
at_most true n = omega arith
at_most false n = omega arith

-- ---- the challenge

pub challenge-length : (n : List ℕ) (o : ℕ) (realm : Option (List ℕ)) → length n ≡ 16
    → length (write_tags (challenge_tags n o realm)) ≡ 21 + length (write_tags (realm_tag realm))
unfolding write_tags challenge_tags
challenge-length n o realm e = omega (arith, length-append n (1 ∷ 1 ∷ o ∷ write_tags (realm_tag realm)))

-- nonce, options and realm, one after the other
pub challenge-steps : (s₀ s₁ s₂ s₃ m n : List ℕ) (at o : ℕ) (realm : Option (List ℕ)) (r₁ r₂ : Wrote) → n ≡ m → length m ≡ 16
    → at + length (write_tags (challenge_tags m o realm)) ≤ length s₀ → putting r₁ s₁ ≡ put_tag s₀ at 0 n → putting r₂ s₂ ≡ put_tag s₁ (at + 18) 1 (o ∷ [])
    → s₃ ≡ laid s₂ (at + 21) (write_tags (realm_tag realm)) → s₃ ≡ laid s₀ at (write_tags (challenge_tags m o realm))
unfolding write_tags challenge_tags
challenge-steps s₀ s₁ s₂ s₃ m n at o realm r₁ r₂ q l h p₁ p₂ p₃ =
    let k = challenge-length m o realm l in
    let a : List ℕ = 0 ∷ length m ∷ m in
    let b : List ℕ = 1 ∷ 1 ∷ o ∷ [] in
    let w = write_tags (realm_tag realm) in
    let e₁ : s₁ ≡ laid s₀ at a = put-laid s₀ m s₁ at 0 r₁ (omega arith) (omega arith) (rw q at p₁) in
    let l₁ : length s₁ ≡ length s₀ = ap length e₁ ∙ length-laid s₀ a at (omega arith) in
    let e₂ : s₂ ≡ laid s₁ (at + 18) b = put-laid s₁ (o ∷ []) s₂ (at + 18) 1 r₂ (omega arith) (omega arith) p₂ in
    p₃
    ∙ ap (λ (s : List ℕ). laid s (at + 21) w) e₂
    ∙ laid-append s₁ b w (at + 18) (at + 21) (omega arith) (omega arith)
    ∙ ap (λ (s : List ℕ). laid s (at + 18) (b ++ w)) e₁
    ∙ laid-append s₀ a (b ++ w) at (at + 18) (omega arith) (omega arith)

-- ---- the response

answer-bytes : (d n : List ℕ) (user : Option (List ℕ))
    → write_tags (answer_tags d user n) ≡ write_tag (record { tag = 0; value = d }) ++ (write_tags (user_tag user) ++ write_tag (record { tag = 2; value = n }))
unfolding write_tags
answer-bytes d n none = simp append-nil
answer-bytes d n (some u) = simp (append-nil, append_assoc)

pub answer-length : (d n : List ℕ) (user : Option (List ℕ)) → length d ≡ 16 → length n ≡ 16
    → length (write_tags (answer_tags d user n)) ≡ 36 + length (write_tags (user_tag user))
answer-length d n user e f =
    let w = write_tags (user_tag user) in
    let t : List ℕ = 2 ∷ length n ∷ n in
    ap length (answer-bytes d n user) ∙ omega (arith, length-append (0 ∷ length d ∷ d) (w ++ t), length-append w t)

-- digest, user id and nonce, one after the other
pub answer-steps : (s₀ s₁ s₂ s₃ d d' n n' : List ℕ) (at k : ℕ) (user : Option (List ℕ)) (r₁ r₃ : Wrote) → d' ≡ d → n' ≡ n → length d ≡ 16 → length n ≡ 16
    → k ≡ length (write_tags (user_tag user)) → at + length (write_tags (answer_tags d user n)) ≤ length s₀ → putting r₁ s₁ ≡ put_tag s₀ at 0 d'
    → s₂ ≡ laid s₁ (at + 18) (write_tags (user_tag user)) → putting r₃ s₃ ≡ put_tag s₂ (at + 18 + k) 2 n' → s₃ ≡ laid s₀ at (write_tags (answer_tags d user n))
answer-steps s₀ s₁ s₂ s₃ d d' n n' at k user r₁ r₃ qd qn ld ln lk h p₁ p₂ p₃ =
    let z = answer-length d n user ld ln in
    let a : List ℕ = 0 ∷ length d ∷ d in
    let w = write_tags (user_tag user) in
    let t : List ℕ = 2 ∷ length n ∷ n in
    let e₁ : s₁ ≡ laid s₀ at a = put-laid s₀ d s₁ at 0 r₁ (omega arith) (omega arith) (rw qd at p₁) in
    let l₁ : length s₁ ≡ length s₀ = ap length e₁ ∙ length-laid s₀ a at (omega arith) in
    let l₂ : length s₂ ≡ length s₁ = ap length p₂ ∙ length-laid s₁ w (at + 18) (omega arith) in
    let e₃ : s₃ ≡ laid s₂ (at + 18 + k) t = put-laid s₂ n s₃ (at + 18 + k) 2 r₃ (omega arith) (omega arith) (rw qn at p₃) in
    e₃
    ∙ ap (λ (s : List ℕ). laid s (at + 18 + k) t) p₂
    ∙ laid-append s₁ w t (at + 18) (at + 18 + k) (omega arith) (omega arith)
    ∙ ap (λ (s : List ℕ). laid s (at + 18) (w ++ t)) e₁
    ∙ laid-append s₀ a (w ++ t) at (at + 18) (omega arith) (omega (arith, length-append w t))
    ∙ ap (laid s₀ at) (sym (answer-bytes d n user))

-- ---- what is written reads back

pub response-back : (n p : List ℕ) (user : Option (List ℕ)) → length n ≡ 16
    → response_of (write_tags (response_tags n user p)) ≡ some (record { digest = request_digest n p; user = user; nonce = some n })
unfolding response_of response_tags response_from
response-back n p none e = rw (write_read (response_tags n none p), eq-eqb (length (request_digest n p)) 16 (length-request n p), eq-eqb (length n) 16 e)
response-back n p (some u) e = rw (write_read (response_tags n (some u) p), eq-eqb (length (request_digest n p)) 16 (length-request n p), eq-eqb (length n) 16 e)

-- a realm has its charset at least
pub challenge-back : (n : List ℕ) (o : ℕ) (there : Bool) (charset : ℕ) (v : List ℕ) → length n ≡ 16
    → challenge_of (write_tags (challenge_tags n o (given there (charset ∷ v)))) ≡ some (record { nonce = n; options = o; realm = given there (charset ∷ v) })
unfolding challenge_of challenge_tags challenge_from
challenge-back n o false charset v e = rw (write_read (challenge_tags n o none), eq-eqb (length n) 16 e)
challenge-back n o true charset v e =
    rw (write_read (challenge_tags n o (some (charset ∷ v))), eq-eqb (length n) 16 e, ne_eqb (suc (length v)) 0 (λ (q : suc (length v) ≡ 0). omega arith))

pub options-back : (a b : Bool) → (user_id_required_of (flag_bits a b) ≡ a) × (read_only_of (flag_bits a b) ≡ b)
unfolding user_id_required_of read_only_of
options-back a b = flags-read a b

-- what a reader's answer is worth for a nonce and a password
abbrev pub accepts : Octets16 → Bool → List ℕ → Maybe DigestResponse → Bool
accepts n demands p None = false
accepts n demands p (Some r) = verifies n r.digest r.user r.nonce demands p

-- an answer to a nonce is right for that nonce and password, with a user id if one is demanded
pub accepted : (n : Octets16) (demands : Bool) (p : List ℕ) (user : Option (List ℕ)) → n.first < 2 ^ 64 → n.second < 2 ^ 64
    → (not demands || has_user user) ≡ true → accepts n demands p (read_response (write_tags (response_tags (octets16 n) user p))) ≡ true
unfolding read_response matches
accepted n demands p user f s h =
    let o = octets16 n in
    let b = response-back o p user (length-octets16 n) in
    rw (b, filled-user (write_tags (response_tags o user p)) _ b, h, numbers-octets n f s, octets-request o p, same_self o, same_self (request_digest o p))
