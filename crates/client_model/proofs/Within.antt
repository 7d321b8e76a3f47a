-- What the packets of a Put have carried so far is within what they carry in the end: no more body bytes than were given, and no more header
-- bytes than the ConnectionID and the user's headers have. Assumes nothing.
use mathlib.Core.Path.{◌≡◌, refl, sym, ap, subst, ◌∙◌}
use mathlib.Core.Bool.{Bool, true, false}
use mathlib.Core.Option.{Option, none, some}
use mathlib.Core.List.{List, [], ◌∷◌, ◌++◌, append-nil}
use Prim.Native.Nat.{ℕ, ◌≤◌}
use native.Mathlib.Omega.{arith}
use lib.ListN.{length, length-append}
use Rattle.base.specs.Pick.{pick}
use Rattle.packet.specs.Header.{Header}
use Rattle.journal.specs.Record.{Record, join_body, joined, body_length, size_of, carried_by}
use Rattle.journal.proofs.Laws.{joined_assoc}
use Rattle.outgoing.specs.Packets.{Packets}
use Rattle.outgoing.proofs.Sender.{packets_left, ending}
use Rattle.client_model.specs.declared.Client.{Client}
use Rattle.client_model.proofs.Conveyed.{Holding, carried_all}
use Rattle.client_model.proofs.Requests.{put_record, put_conveyed}
use Rattle.client_model.proofs.Putting.{Job, all_of, onto, SoFar, Answered, behind-sent, ending_has, same-headers, onto-ending}

-- one record is within another
pub record Within (c d : Record) : Type 0 where
  pub headers : length c.headers ≤ length d.headers
  pub body : size_of c ≤ size_of d

joined-within : (c d : Record) → Within c (joined c d)
joined-within c d = record { headers = omega (arith, length-append c.headers d.headers); body = by c.body d.body }
  where
    by : (a b : Option (List ℕ)) → body_length a ≤ body_length (join_body a b)
    by none b = omega arith
    by (some a) none = omega arith
    by (some a) (some b) = omega (arith, length-append a b)

carried-append : (xs ys : List (List Header)) → carried_all (xs ++ ys) ≡ joined (carried_all xs) (carried_all ys)
carried-append [] ys = refl
carried-append (x ∷ xs) ys = ap (joined (carried_by x)) (carried-append xs ys) ∙ sym (joined_assoc (carried_by x) (carried_all xs) (carried_all ys))

-- the headers of the first packets of some
pub split : (ps qs : List (List ℕ)) (zs : List (List Header)) → Holding (ps ++ qs) zs
    → (xs : List (List Header)) × (ys : List (List Header)) × (zs ≡ xs ++ ys) × Holding ps xs
split [] qs zs h = ([], zs, refl, tt)
split (p ∷ ps) qs [] h = absurd h
split (p ∷ ps) qs (z ∷ zs) h =
    let w = split ps qs zs h.2 in
    (z ∷ w.0, w.1, ap (λ (l : List (List Header)). z ∷ l) w.2, (h.0, h.1, w.3))

module _ (j : Job) (sent : List (List ℕ)) (d : List ℕ) (xs : List (List Header)) (hold : Holding sent xs) where
  -- if the packets of the whole Put begin with those that were sent
  prefix-within : (rest : List (List ℕ)) → (all_of j (onto d (ending j.has))).sent ≡ sent ++ rest
      → Within (carried_all xs) (put_record j.id j.hs (pick j.has (some d) none))
  prefix-within rest e =
      let b = onto d (ending j.has) in
      let v = put_conveyed j.capacity j.id j.wants j.hs b j.octets j.headers in
      let w = split sent rest v.headers (subst (λ (l : List (List ℕ)). Holding l v.headers) e v.holds) in
      let q : joined (carried_all xs) (carried_all w.1) ≡ put_record j.id j.hs (pick j.has (some d) none) =
      ap (λ (l : List (List Header)). joined (carried_all l) (carried_all w.1)) (same-headers sent xs w.0 hold w.3)
      ∙ sym (carried-append w.0 w.1) ∙ ap carried_all (sym w.2) ∙ v.carries ∙ ap (put_record j.id j.hs) (onto-ending j.has d) in
      subst (λ (r : Record). Within (carried_all xs) r) q (joined-within (carried_all xs) (carried_all w.1))

  -- at any moment of it
  pub sent-within : (f : Option (List ℕ) → Packets) → SoFar j sent d f
      → Within (carried_all xs) (put_record j.id j.hs (pick j.has (some d) none))
  sent-within f so =
      let r = f (ending j.has) in
      prefix-within r.sent (ap (λ (x : Packets). x.sent) (so (ending j.has) (ending_has j.has)) ∙ behind-sent sent r)

  pub carried-within : (last srm initial : Bool) (c : Client) → Answered last j srm initial sent d c
      → Within (carried_all xs) (put_record j.id j.hs (pick j.has (some d) none))
  carried-within true srm initial c a = prefix-within [] (ap (λ (r : Packets). r.sent) a.so_far ∙ sym (append-nil sent))
  carried-within false srm initial c a = sent-within (λ b. packets_left j.capacity a.rest.left b) a.rest.so_far

-- some of the headers carry no more than all
pub fewer_within : (xs ys : List (List Header)) → Within (carried_all xs) (carried_all (xs ++ ys))
fewer_within xs ys = subst (λ (r : Record). Within (carried_all xs) r) (sym (carried-append xs ys)) (joined-within (carried_all xs) (carried_all ys))

-- the packets that went are the first of all
pub sent-first : (j : Job) (last srm initial : Bool) (sent : List (List ℕ)) (d : List ℕ) (c : Client) → Answered last j srm initial sent d c
    → (rest : List (List ℕ)) × ((all_of j (onto d (ending j.has))).sent ≡ sent ++ rest)
sent-first j true srm initial sent d c a = ([], ap (λ (r : Packets). r.sent) a.so_far ∙ sym (append-nil sent))
sent-first j false srm initial sent d c a =
    let r = packets_left j.capacity a.rest.left (ending j.has) in
    (r.sent, ap (λ (x : Packets). x.sent) (a.rest.so_far (ending j.has) (ending_has j.has)) ∙ behind-sent sent r)
