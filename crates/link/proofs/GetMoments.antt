-- What holds at every moment of a Get: the run is in one of its phases; after an Abort no part is
-- handed on; and a packet that waits is within the server's limit. Assumes nothing.
use mathlib.Core.Path.{◌≡◌, refl, sym, ap, ◌∙◌}
use mathlib.Core.List.{List, [], ◌∷◌, ◌++◌}
use mathlib.Core.Bool.{Bool, true, false, ◌||◌, true≢false}
use Prim.Native.Nat.{ℕ, ◌≤◌}
use native.Mathlib.Omega.{arith}
use lib.ListN.{length, take}
use Rattle.packet.specs.Packet.{packet_bytes}
use Rattle.journal.specs.Record.{Record, bare, joined}
use Rattle.packet.specs.Header.{Header}
use Rattle.client_model.specs.Numbers.{same_await}
use Rattle.client_model.specs.Step.{Stores}
use Rattle.client_model.specs.declared.Client.{Client}
use Rattle.client_model.specs.declared.Await.{Await}
use Rattle.client_model.specs.declared.Await.TheVariants as await
use Rattle.client_model.specs.declared.Outcome.{Outcome}
use Rattle.client_model.proofs.Sending.{lead-small}
use Rattle.client_model.proofs.Getting.{Fetch, next_bytes, abort_bytes, sent-within}
use Rattle.link.specs.Link.{Link, Move, user, host, sendUp, sendDown, offerUp, offerDown, closeUp, closeDown, move, moves}
use Rattle.link.specs.Told.{aborts, aborted_in, part_by_of, parts_in}
use Rattle.link.specs.ContractClaims.{request_bytes}
use Rattle.link.specs.Claims.{Plain, Until}
use Rattle.link.proofs.GetHeard.{GetHeard, get_heard_after, get_heard_in, refused-part, none-part-down}
use Rattle.link.proofs.GetJoint.{Origin, GetJoint, turn, handing, last-part, asking, stopping, under_way, at_host, reading, acknowledging, replied, coming, ended, Busy, sending, cancelling, Taker, awaiting-next, hands, streaming, closing, lost, pouring, draining, GetNext, goes, over}
use Rattle.link.proofs.GetResponses.{late-none}
use Rattle.link.proofs.GetFlows.{pour_offer, drain_offer}
use Rattle.link.proofs.GetRuns.{get_move}

-- ---- the phases along a run

-- what follows a move before which nothing was over
later : (j : Fetch) (o : Origin) (h : GetHeard) (l : Link) (k : Move) (ys : List Move) (m : Move) (zs : List Move) → GetNext j o h (move l k)
    → Until l (k ∷ (ys ++ (m ∷ zs)))
    → GetJoint j o h (move l k) × Until (move l k) (ys ++ (m ∷ zs))
later j o h l k [] m zs (goes w) un = (w, un.1)
later j o h l k (y ∷ ys) m zs (goes w) un = (w, un.1)
later j o h l k [] m zs (over w r) un = absurd (true≢false (sym w.is_over_lem ∙ un.0))
later j o h l k (y ∷ ys) m zs (over w r) un = absurd (true≢false (sym w.is_over_lem ∙ un.0))

-- before each move of the run
pub get_at : (j : Fetch) (o : Origin) (xs : List Move) (m : Move) (zs : List Move) (h : GetHeard) (l : Link) → GetJoint j o h l
    → Plain (xs ++ (m ∷ zs)) → Until l (xs ++ (m ∷ zs))
    → GetJoint j o (get_heard_in h l xs) (moves l xs) × Until (moves l xs) (m ∷ zs)
get_at j o [] m zs h l now pl un = (now, un)
get_at j o (k ∷ xs) m zs h l now pl un =
    let w = later j o (get_heard_after h l k) l k xs m zs (get_move j o h l now k pl.0) un in
    get_at j o xs m zs (get_heard_after h l k) (move l k) w.0 pl.1 w.1

-- ---- after an Abort

none-handed : (j : Fetch) (o : Origin) (h : GetHeard) (l : Link) → GetJoint j o h l → h.aborted ≡ true → (n : ℕ) → part_by_of l (offerDown n) ≡ bare
none-handed j o h l (turn sent xs hold k a b r g dn ea ab) e n = absurd (true≢false (sym e ∙ ab))
none-handed j o h l (handing t out d zs code k x off s p a q b r g dn hold w ab) e n = absurd (true≢false (sym e ∙ ab))
none-handed j o h l (last-part on code k x s p a q b r g dn fin) e n = refused-part l n (ap (λ (x : Await). same_await x await.Bytes) a)
none-handed j o h l (asking t out d zs code k off s p a q u b r g dn hold w ab) e n = absurd (true≢false (sym e ∙ ab))
none-handed j o h l (stopping k s p a q u b r dn on ab) e n = refused-part l n (ap (λ (x : Await). same_await x await.Bytes) a)
none-handed j o h l (under_way st flag sent q due b v c dn) e n = none-part-down l n dn
none-handed j o h l (at_host flag srm initial confirm sent g r due may b v a p t up dn on) e n = none-part-down l n dn
none-handed j o h l (reading st flag sent th out d zs r due wt off low b v a rd t up dn hold w) e n = none-part-down l n dn
none-handed j o h l (acknowledging sent r due b v a t up dn on) e n = none-part-down l n dn
none-handed j o h l (replied st flag sent y code x k due b y' mean v a t r up dn) e n = none-part-down l n dn
none-handed j o h l (coming st flag sent y code x due y' mean r half hl) e n =
    late-none j o h l st flag sent y code x due y' mean r hl half n (sym due.aborted ∙ e)
none-handed j o h l (ended st flag sent x due b a t lg dn on ob fa) e n = none-part-down l n dn
none-handed j o h l (streaming sent xs qs vs bu b pre hold au rd ga qu dn ea) e n = none-part-down l n dn
none-handed j o h l (closing st flag sent xs qs vs q ws due b pre hold au cl rd ga qu dn ea) e n = none-part-down l n dn
none-handed j o h l (lost sent x bu b a t lg dn ea k) e n = none-part-down l n dn
none-handed j o h l (pouring t out d zs ys vs on (hands code k x s p a q bg ab) ad qu hold gr up v src w) e n = absurd (true≢false (sym e ∙ ab))
none-handed j o h l (pouring t out d zs [] vs on (awaiting-next st flag sent due wt tu) ad qu hold gr up v src w) e n = none-part-down l n qu.0
none-handed j o h l (pouring t out d zs (y ∷ ys) [] on (awaiting-next st flag sent due wt tu) ad qu hold gr up v src w) e n = absurd ad
none-handed j o h l (pouring t out d zs (y ∷ ys) (x ∷ vs) on (awaiting-next st flag sent due wt tu) ad qu hold gr up v src w) e n =
    (pour_offer j o h l t out d zs on st flag sent due wt tu w y ys x vs ad qu hold gr up v src n).1 (sym due.aborted ∙ e)
none-handed j o h l (draining t out d zs ys vs y code x on (hands c k z s p a q bg ab) ad y' qu gr r la w hl) e n = absurd (true≢false (sym e ∙ ab))
none-handed j o h l (draining t out d zs ys vs y code x on (awaiting-next st flag sent due wt tu) ad y' qu gr r la w hl) e n =
    (drain_offer j o h l t out d zs on st flag sent due wt tu w y code x y' r hl ys vs ad qu gr la n).1 (sym due.aborted ∙ e)

-- no move hands on a part
pub get_late : (j : Fetch) (o : Origin) (h : GetHeard) (l : Link) → GetJoint j o h l → h.aborted ≡ true → (m : Move) → part_by_of l m ≡ bare
get_late j o h l now e (offerDown n) = none-handed j o h l now e n
get_late j o h l now e (user u) = refl
get_late j o h l now e (host c) = refl
get_late j o h l now e sendUp = refl
get_late j o h l now e sendDown = refl
get_late j o h l now e (offerUp n) = refl
get_late j o h l now e closeUp = refl
get_late j o h l now e closeDown = refl

still-aborted : (a b : Bool) → a ≡ true → (a || b) ≡ true
still-aborted a b e = ap (λ (t : Bool). t || b) e

-- nor does the rest of the run
late-from : (j : Fetch) (o : Origin) (ms : List Move) (h : GetHeard) (l : Link) → GetJoint j o h l → h.aborted ≡ true → Plain ms → Until l ms
    → parts_in l ms ≡ bare
late-from j o [] h l now e pl un = refl
late-from j o (m ∷ []) h l now e pl un = ap (λ (r : Record). joined r bare) (get_late j o h l now e m)
late-from j o (m ∷ (k ∷ ms)) h l now e pl un =
    let w = later j o (get_heard_after h l m) l m [] k ms (get_move j o h l now m pl.0) un in
    ap (λ (r : Record). joined r (parts_in (move l m) (k ∷ ms))) (get_late j o h l now e m)
    ∙ ap (joined bare) (late-from j o (k ∷ ms) (get_heard_after h l m) (move l m) w.0 (still-aborted h.aborted (aborts l m) e) pl.1 w.1)

-- what is heard of an Abort in a run
aborted_in_lem : (xs : List Move) (h : GetHeard) (l : Link) → (get_heard_in h l xs).aborted ≡ (h.aborted || aborted_in l xs)
aborted_in_lem [] h l = sym (or_false h.aborted)
  where
    or_false : (a : Bool) → (a || false) ≡ a
    or_false true = refl
    or_false false = refl
aborted_in_lem (m ∷ xs) h l = aborted_in_lem xs (get_heard_after h l m) (move l m) ∙ or_assoc h.aborted (aborts l m) (aborted_in (move l m) xs)
  where
    or_assoc : (a b c : Bool) → ((a || b) || c) ≡ (a || (b || c))
    or_assoc true b c = refl
    or_assoc false b c = refl

plain-behind : (xs ys : List Move) → Plain (xs ++ ys) → Plain ys
plain-behind [] ys p = p
plain-behind (x ∷ xs) ys p = plain-behind xs ys p.1

pub late-run : (j : Fetch) (o : Origin) (xs : List Move) (m : Move) (zs : List Move) (h : GetHeard) (l : Link) → GetJoint j o h l
    → Plain (xs ++ (m ∷ zs)) → Until l (xs ++ (m ∷ zs))
    → aborted_in l xs ≡ true → parts_in (moves l xs) (m ∷ zs) ≡ bare
late-run j o xs m zs h l now pl un ab =
    let w = get_at j o xs m zs h l now pl un in
    late-from j o (m ∷ zs) (get_heard_in h l xs) (moves l xs) w.0 (aborted_in_lem xs h l ∙ or_true h.aborted (aborted_in l xs) ab)
    (plain-behind xs (m ∷ zs) pl) w.1
  where
    or_true : (a b : Bool) → b ≡ true → (a || b) ≡ true
    or_true true b e = refl
    or_true false b e = e

-- ---- a packet that waits

next_small : length next_bytes ≤ 255
unfolding packet_bytes
next_small = omega arith

abort_small : (j : Fetch) → length (abort_bytes j.id) ≤ 255
unfolding packet_bytes
abort_small j = let k = lead-small j.id false in omega (arith, k)

-- one of the request, or the Abort, under Single Response Mode
busy-within : (j : Fetch) (h : GetHeard) (sent : List (List ℕ)) (c : Client) (s : Stores) (u : Outcome) → Busy j h sent c s u
    → length (request_bytes u s.request) ≤ j.remote
busy-within j h sent c s u (sending k a ab) =
    let e = ap (λ (o : Outcome). length (request_bytes o s.request)) a.said in
    let f = ap (λ (q : List ℕ). length (take a.size q)) a.request in
    omega (arith, e, f, sent-within j true sent c u s a)
busy-within j h sent c s u (cancelling n k p a q t ab) =
    let e = ap (λ (o : Outcome). length (request_bytes o s.request)) q in
    let f = ap (λ (x : List ℕ). length x) t in
    omega (arith, e, f, abort_small j, j.low)

-- none waits while the client takes parts
taker_within : (j : Fetch) (h : GetHeard) (lead : Bool) (zs : List (List Header)) (c : Client) (s : Stores) (u : Outcome) → Taker j h lead zs c s u
    → length (request_bytes u s.request) ≤ j.remote
taker_within j h lead zs c s u (awaiting-next st flag sent due wt tu) =
    let e = ap (λ (x : Outcome). length (request_bytes x s.request)) due.said in omega (arith, e)
taker_within j h lead zs c s u (hands code n x k p a q bg ab) =
    let e = ap (λ (x : Outcome). length (request_bytes x s.request)) q in omega (arith, e)

-- it is within the limit of the server
pub within : (j : Fetch) (o : Origin) (h : GetHeard) (l : Link) → GetJoint j o h l → length (request_bytes l.said l.stores.request) ≤ j.remote
within j o h l (turn sent xs hold k a b r g dn ea ab) =
    let e = ap (λ (u : Outcome). length (request_bytes u l.stores.request)) a.said in
    let f = ap (λ (q : List ℕ). length (take a.size q)) a.request in
    omega (arith, e, f, sent-within j false sent l.client l.said l.stores a)
within j o h l (handing t out d zs code n x off k p a q b r g dn hold w ab) =
    let e = ap (λ (u : Outcome). length (request_bytes u l.stores.request)) q in omega (arith, e)
within j o h l (last-part on code n x k p a q b r g dn fin) =
    let e = ap (λ (u : Outcome). length (request_bytes u l.stores.request)) q in omega (arith, e)
within j o h l (asking t out d zs code n off k p a q u b r g dn hold w ab) =
    let e = ap (λ (x : Outcome). length (request_bytes x l.stores.request)) q in
    let f = ap (λ (x : List ℕ). length x) u in
    omega (arith, e, f, next_small, j.low)
within j o h l (stopping n k p a q u b r dn on ab) =
    let e = ap (λ (x : Outcome). length (request_bytes x l.stores.request)) q in
    let f = ap (λ (x : List ℕ). length x) u in
    omega (arith, e, f, abort_small j, j.low)
within j o h l (under_way st flag sent q due b v c dn) =
    let e = ap (λ (x : Outcome). length (request_bytes x l.stores.request)) due.said in omega (arith, e)
within j o h l (at_host flag srm initial confirm sent g r due may b v a p t up dn on) =
    let e = ap (λ (x : Outcome). length (request_bytes x l.stores.request)) due.said in omega (arith, e)
within j o h l (reading st flag sent th out d zs r due wt off low b v a rd t up dn hold w) =
    let e = ap (λ (x : Outcome). length (request_bytes x l.stores.request)) due.said in omega (arith, e)
within j o h l (acknowledging sent r due b v a t up dn on) =
    let e = ap (λ (x : Outcome). length (request_bytes x l.stores.request)) due.said in omega (arith, e)
within j o h l (replied st flag sent y code x n due b y' mean v a t r up dn) =
    let e = ap (λ (x : Outcome). length (request_bytes x l.stores.request)) due.said in omega (arith, e)
within j o h l (coming st flag sent y code x due y' mean r half hl) =
    let e = ap (λ (x : Outcome). length (request_bytes x l.stores.request)) due.said in omega (arith, e)
within j o h l (ended st flag sent x due b a t lg dn on ob fa) =
    let e = ap (λ (x : Outcome). length (request_bytes x l.stores.request)) due.said in omega (arith, e)
within j o h l (streaming sent xs qs vs bu b pre hold au rd ga qu dn ea) = busy-within j h sent l.client l.stores l.said bu
within j o h l (closing st flag sent xs qs vs q ws due b pre hold au cl rd ga qu dn ea) =
    let e = ap (λ (x : Outcome). length (request_bytes x l.stores.request)) due.said in omega (arith, e)
within j o h l (lost sent x bu b a t lg dn ea k) = busy-within j h sent l.client l.stores l.said bu
within j o h l (pouring t out d zs ys vs on tk ad qu hold gr up v src w) = taker_within j h t.lead zs l.client l.stores l.said tk
within j o h l (draining t out d zs ys vs y code x on tk ad y' qu gr r la w hl) = taker_within j h t.lead zs l.client l.stores l.said tk
