-- The gathered stores and what the journal keeps go together. The engine refuses single body headers and the journal asks for the total:
-- no header was refused exactly where the total is within the limit, and then the store has all the bytes. Assumes nothing.
use mathlib.Core.Path.{◌≡◌, refl, sym, ap, ◌∙◌}
use mathlib.Core.List.{List, [], ◌∷◌, ◌++◌, append-nil, append_assoc}
use mathlib.Core.Bool.{Bool, true, false}
use mathlib.Core.Option.{Option, none, some}
use Prim.Native.Nat.{ℕ, ◌+◌, ◌≤◌, ◌<◌}
use native.Mathlib.Nat.{le_refl}
use native.Mathlib.Omega.{arith}
use lib.ListN.{length, length-append, take}
use lib.Seq.{paste, take-paste, length-paste, take-length}
use lib.Dec.{leb, ltb}
use borrow.Author.Tests.{leb-true, leb-false, ltb-true, lt-ltb, le-ltb, le-leb, lt-leb}
use Rattle.base.specs.Pick.{pick}
use Rattle.packet.specs.Header.{Header, bytes_of, all_bytes}
use Rattle.journal.specs.Record.{is_body, is_srm, Record, bare, join_body, joined, body_length, size_of, carried_one, carried_by, kept_by_get}
use Rattle.journal.proofs.Laws.{joined-bare, joined_assoc, size-joined}
use Rattle.incoming.specs.declared.gather.Keep.{Keep}
use Rattle.incoming.specs.declared.gather.Keep.TheVariants as keep
use Rattle.incoming.specs.Gather.{Gathering, gathering, Fate, kept, stored, dropped, fate_of, keep_bytes, store_bytes, gather_by, gather_one, gather_all}

-- ---- bytes at a place of a store that has room for them

pub pasted : (d bs : List ℕ) (n : ℕ) → n + length bs ≤ length d → take n d ++ bs ≡ take (n + length bs) (paste d n bs (length bs))
pasted d bs n h =
    sym (take-paste d n bs (length bs) (omega arith) (le_refl (length bs)) ∙ ap (λ (l : List ℕ). take n d ++ l) (take-length bs))

pub paste-length : (d bs : List ℕ) (n : ℕ) → n + length bs ≤ length d → length (paste d n bs (length bs)) ≡ length d
paste-length d bs n h = length-paste d n bs (length bs) h (le_refl (length bs))

-- ---- stores keep their lengths, and what is gathered its bounds

record Bounds (limit : ℕ) (g : Gathering) : Type 0 where
  kept-room : g.got.kept ≤ 65535
  body-within : g.got.body ≤ limit
  room : 65535 ≤ length g.headers
  body-room : limit ≤ length g.body

abbrev Keeps : ℕ → Gathering → Gathering → Type 0
Keeps limit g n =
    (length n.headers ≡ length g.headers) × (length n.body ≡ length g.body) × (n.got.kept ≤ 65535) × (n.got.body ≤ limit)

module _ (limit : ℕ) (g : Gathering) (bs : List ℕ) (b : Bounds limit g) where
  keep_lengths : Keeps limit g (keep_bytes g bs)
  unfolding keep_bytes
  keep_lengths = go (leb (g.got.kept + length bs) 65535) refl
    where
      go : (t : Bool) → leb (g.got.kept + length bs) 65535 ≡ t → Keeps limit g (keep_bytes g bs)
      go true e =
          let h : g.got.kept + length bs ≤ 65535 = leb-true _ _ e in
          rw e (paste-length g.headers bs g.got.kept (omega arith), refl, h, b.body-within)
      go false e = rw e (refl, refl, b.kept-room, b.body-within)

  store_lengths : Keeps limit g (store_bytes limit g bs)
  unfolding store_bytes
  store_lengths = go (leb (g.got.body + length bs) limit) refl
    where
      go : (t : Bool) → leb (g.got.body + length bs) limit ≡ t → Keeps limit g (store_bytes limit g bs)
      go true e =
          let h : g.got.body + length bs ≤ limit = leb-true _ _ e in
          rw e (refl, paste-length g.body bs g.got.body (omega arith), b.kept-room, h)
      go false e = rw e (refl, refl, b.kept-room, b.body-within)

by_lengths : (f : Fate) (limit : ℕ) (g : Gathering) (h : Header) → Bounds limit g → Keeps limit g (gather_by f limit g h)
by_lengths kept limit g h b = keep_lengths limit g (bytes_of h) b
by_lengths stored limit g h b = store_lengths limit g h.value b
by_lengths dropped limit g h b = (refl, refl, b.kept-room, b.body-within)

all_lengths : (k : Keep) (limit : ℕ) (hs : List Header) (g : Gathering) → Bounds limit g → Keeps limit g (gather_all k limit hs g)
unfolding gather_all gather_one
all_lengths k limit [] g b = (refl, refl, b.kept-room, b.body-within)
all_lengths k limit (h ∷ hs) g b =
    let o = by_lengths (fate_of k h.id) limit g h b in
    let a = all_lengths k limit hs (gather_by (fate_of k h.id) limit g h) (record { kept-room = o.2; body-within = o.3; room = omega arith; body-room = omega arith }) in
    go g.got.full (a.0 ∙ o.0, a.1 ∙ o.1, a.2, a.3)
  where
    go : (t : Bool) → Keeps limit g (gather_all k limit hs (gather_by (fate_of k h.id) limit g h))
        → Keeps limit g (pick t g (gather_all k limit hs (gather_by (fate_of k h.id) limit g h)))
    go true w = (refl, refl, b.kept-room, b.body-within)
    go false w = w

pub gather_lengths : (k : Keep) (limit : ℕ) (hs : List Header) (g : Gathering) → g.got.kept ≤ 65535 → g.got.body ≤ limit
    → 65535 ≤ length g.headers → limit ≤ length g.body
    → (length (gather_all k limit hs g).headers ≡ length g.headers) × (length (gather_all k limit hs g).body ≡ length g.body)
    × ((gather_all k limit hs g).got.kept ≤ 65535) × ((gather_all k limit hs g).got.body ≤ limit)
gather_lengths k limit hs g a b c d =
    all_lengths k limit hs g (record { kept-room = a; body-within = b; room = c; body-room = d })

pub one-within : (k : Keep) (limit : ℕ) (h : Header) (g : Gathering) → g.got.kept ≤ 65535 → g.got.body ≤ limit
    → 65535 ≤ length g.headers → limit ≤ length g.body
    → ((gather_one k limit g h).got.kept ≤ 65535) × ((gather_one k limit g h).got.body ≤ limit)
unfolding gather_one
one-within k limit h g a b c d =
    let w = by_lengths (fate_of k h.id) limit g h (record { kept-room = a; body-within = b; room = c; body-room = d }) in
    (w.2, w.3)

-- ---- how much is kept

abbrev kept_one : Fate → Header → List ℕ
kept_one kept h = bytes_of h
kept_one stored h = []
kept_one dropped h = []

abbrev kept_of : Keep → List Header → List ℕ
kept_of k [] = []
kept_of k (h ∷ hs) = kept_one (fate_of k h.id) h ++ kept_of k hs

-- while the headers fit
abbrev Counts : Gathering → ℕ → Type 0
Counts g n = (g.got.full ≡ false) × (g.got.kept ≡ n)

by_kept : (f : Fate) (limit : ℕ) (g : Gathering) (h : Header) → g.got.full ≡ false → g.got.kept + length (kept_one f h) ≤ 65535
    → Counts (gather_by f limit g h) (g.got.kept + length (kept_one f h))
unfolding keep_bytes store_bytes
by_kept kept limit g h e l = rw (le-leb _ _ l) (refl, refl)
by_kept stored limit g h e l = go (leb (g.got.body + length h.value) limit) refl
  where
    go : (t : Bool) → leb (g.got.body + length h.value) limit ≡ t → Counts (store_bytes limit g h.value) (g.got.kept + 0)
    go true q = rw q (refl, omega arith)
    go false q = rw q (refl, omega arith)
by_kept dropped limit g h e l = (e, omega arith)

gather_on : (k : Keep) (limit : ℕ) (h : Header) (hs : List Header) (g : Gathering) → g.got.full ≡ false
    → gather_all k limit (h ∷ hs) g ≡ gather_all k limit hs (gather_by (fate_of k h.id) limit g h)
unfolding gather_all gather_one
gather_on k limit h hs g e =
    ap (λ (t : Bool). pick t g (gather_all k limit hs (gather_by (fate_of k h.id) limit g h))) e

all-kept : (k : Keep) (limit : ℕ) (hs : List Header) (g : Gathering) → g.got.full ≡ false → g.got.kept + length (kept_of k hs) ≤ 65535
    → Counts (gather_all k limit hs g) (g.got.kept + length (kept_of k hs))
unfolding gather_all
all-kept k limit [] g e l = (e, omega arith)
all-kept k limit (h ∷ hs) g e l =
    let f = fate_of k h.id in
    let s = length-append (kept_one f h) (kept_of k hs) in
    let o = by_kept f limit g h e (omega arith) in
    let a = all-kept k limit hs (gather_by f limit g h) o.0 (omega arith) in
    rw (gather_on k limit h hs g e) (a.0, omega arith)

pub record KeptAgrees (limit : ℕ) (g : Gathering) (k : List ℕ) : Type 0 where
  pub room : 65535 ≤ length g.headers
  pub body-room : limit ≤ length g.body
  pub full : g.got.full ≡ false
  pub kept : g.got.kept ≡ length k
  pub kept-room : g.got.kept ≤ 65535
  pub body-within : g.got.body ≤ limit

kept-agrees : (w : Keep) (limit : ℕ) (hs : List Header) (g : Gathering) (k : List ℕ) → KeptAgrees limit g k → length (k ++ kept_of w hs) ≤ 65535
    → KeptAgrees limit (gather_all w limit hs g) (k ++ kept_of w hs)
kept-agrees w limit hs g k a l =
    let s = length-append k (kept_of w hs) in
    let n = all-kept w limit hs g a.full (omega arith) in
    let b = gather_lengths w limit hs g a.kept-room a.body-within a.room a.body-room in
    record { room = omega arith; body-room = omega arith; full = n.0; kept = omega arith; kept-room = b.2; body-within = b.3 }

-- headers that do not fit stop the gathering
by_full : (f : Fate) (limit : ℕ) (g : Gathering) (h : Header) → g.got.kept ≤ 65535 → 65535 < g.got.kept + length (kept_one f h)
    → (gather_by f limit g h).got.full ≡ true
unfolding keep_bytes
by_full kept limit g h b l = rw (lt-leb _ _ l) refl
by_full stored limit g h b l = absurd (omega arith)
by_full dropped limit g h b l = absurd (omega arith)

stays-full : (k : Keep) (limit : ℕ) (hs : List Header) (g : Gathering) → g.got.full ≡ true → (gather_all k limit hs g).got.full ≡ true
unfolding gather_all
stays-full k limit [] g e = e
stays-full k limit (h ∷ hs) g e = rw e refl

-- one header, of which `later` says what those behind it do
one-full : (k : Keep) (limit : ℕ) (f : Fate) (h : Header) (hs : List Header) (g : Gathering) → g.got.full ≡ false → g.got.kept ≤ 65535
    → 65535 < g.got.kept + length (kept_one f h ++ kept_of k hs)
    → ((n : Gathering) → n.got.full ≡ false → n.got.kept ≤ 65535 → 65535 < n.got.kept + length (kept_of k hs) → (gather_all k limit hs n).got.full ≡ true)
    → (gather_all k limit hs (gather_by f limit g h)).got.full ≡ true
one-full k limit f h hs g e b l later = go (leb (g.got.kept + length (kept_one f h)) 65535) refl
  where
    go : (t : Bool) → leb (g.got.kept + length (kept_one f h)) 65535 ≡ t → (gather_all k limit hs (gather_by f limit g h)).got.full ≡ true
    go true i =
        let s = length-append (kept_one f h) (kept_of k hs) in
        let m : g.got.kept + length (kept_one f h) ≤ 65535 = leb-true _ _ i in
        let o = by_kept f limit g h e m in
        later (gather_by f limit g h) o.0 (omega (arith, o.1)) (omega (arith, o.1))
    go false i = stays-full k limit hs (gather_by f limit g h) (by_full f limit g h b (leb-false _ _ i))

all-full : (k : Keep) (limit : ℕ) (hs : List Header) (g : Gathering) → g.got.full ≡ false → g.got.kept ≤ 65535
    → 65535 < g.got.kept + length (kept_of k hs) → (gather_all k limit hs g).got.full ≡ true
unfolding gather_all
all-full k limit [] g e b l = absurd (omega arith)
all-full k limit (h ∷ hs) g e b l =
    rw (gather_on k limit h hs g e) (one-full k limit (fate_of k h.id) h hs g e b l (λ n. all-full k limit hs n))

kept_full : (w : Keep) (limit : ℕ) (hs : List Header) (g : Gathering) (k : List ℕ) → g.got.full ≡ false → g.got.kept ≡ length k
    → g.got.kept ≤ 65535 → 65535 < length (k ++ kept_of w hs) → (gather_all w limit hs g).got.full ≡ true
kept_full w limit hs g k e n b l = all-full w limit hs g e b (omega (arith, n, length-append k (kept_of w hs)))

get_kept : (hs : List Header) → kept_of keep.Get hs ≡ kept_by_get hs
unfolding kept_by_get
get_kept [] = refl
get_kept (h ∷ hs) = go (is_srm h.id) (get_kept hs)
  where
    go : (t : Bool) → kept_of keep.Get hs ≡ kept_by_get hs
        → kept_one (pick t dropped kept) h ++ kept_of keep.Get hs ≡ pick t (kept_by_get hs) (bytes_of h ++ kept_by_get hs)
    go true e = e
    go false e = ap (λ (l : List ℕ). bytes_of h ++ l) e

all-kept-bytes : (hs : List Header) → kept_of keep.All hs ≡ all_bytes hs
unfolding all_bytes
all-kept-bytes [] = refl
all-kept-bytes (h ∷ hs) = ap (λ (l : List ℕ). bytes_of h ++ l) (all-kept-bytes hs)

pub get_agrees : (limit : ℕ) (hs : List Header) (g : Gathering) (k : List ℕ) → KeptAgrees limit g k → length (k ++ kept_by_get hs) ≤ 65535
    → KeptAgrees limit (gather_all keep.Get limit hs g) (k ++ kept_by_get hs)
get_agrees limit hs g k = rw (← get_kept hs) (kept-agrees keep.Get limit hs g k)

pub all-agrees : (limit : ℕ) (hs : List Header) (g : Gathering) (k : List ℕ) → KeptAgrees limit g k → length (k ++ all_bytes hs) ≤ 65535
    → KeptAgrees limit (gather_all keep.All limit hs g) (k ++ all_bytes hs)
all-agrees limit hs g k = rw (← all-kept-bytes hs) (kept-agrees keep.All limit hs g k)

pub get_full : (limit : ℕ) (hs : List Header) (g : Gathering) (k : List ℕ) → KeptAgrees limit g k → 65535 < length (k ++ kept_by_get hs)
    → (gather_all keep.Get limit hs g).got.full ≡ true
get_full limit hs g k a = rw (← get_kept hs) (kept_full keep.Get limit hs g k a.full a.kept a.kept-room)

pub headers-full : (limit : ℕ) (hs : List Header) (g : Gathering) (k : List ℕ) → KeptAgrees limit g k → 65535 < length (k ++ all_bytes hs)
    → (gather_all keep.All limit hs g).got.full ≡ true
headers-full limit hs g k a = rw (← all-kept-bytes hs) (kept_full keep.All limit hs g k a.full a.kept a.kept-room)

pub kept-begins : (limit : ℕ) (h b : List ℕ) → 65535 ≤ length h → limit ≤ length b
    → KeptAgrees limit (gathering (record { kept = 0; body = 0; came = false; over = false; full = false }) h b) []
kept-begins limit h b r l =
    record { room = r; body-room = l; full = refl; kept = refl; kept-room = omega arith; body-within = omega arith }

-- ---- a Put

-- a Put's gathering stands for what was carried
pub record PutAgrees (limit : ℕ) (g : Gathering) (c : Record) : Type 0 where
  pub room : 65535 ≤ length g.headers
  pub body-room : limit ≤ length g.body
  pub full : g.got.full ≡ false
  pub kept : g.got.kept ≡ length c.headers
  pub kept-room : g.got.kept ≤ 65535
  pub headers : c.headers ≡ take g.got.kept g.headers
  pub body-within : g.got.body ≤ limit
  pub over : g.got.over ≡ ltb limit (size_of c)
  pub body : g.got.over ≡ false → (g.got.body ≡ size_of c) × (c.body ≡ pick g.got.came (some (take g.got.body g.body)) none)

-- what a header of a Put carries, by what becomes of it
abbrev carried_as : Fate → Header → Record
carried_as kept h = record { headers = bytes_of h; body = none }
carried_as stored h = record { headers = []; body = some h.value }
carried_as dropped h = bare

pub put-begins : (limit : ℕ) (h b : List ℕ) → 65535 ≤ length h → limit ≤ length b
    → PutAgrees limit (gathering (record { kept = 0; body = 0; came = false; over = false; full = false }) h b) bare
put-begins limit h b r l =
    record {
      room = r;
      body-room = l;
      full = refl;
      kept = refl;
      kept-room = omega arith;
      headers = refl;
      body-within = omega arith;
      over = sym (le-ltb limit 0 (omega arith));
      body = λ e. (refl, refl);
    }

-- no bytes stand in the store before a body header came
carried_on : (came : Bool) (n : ℕ) (d v : List ℕ) (b : Option (List ℕ)) → n ≡ body_length b → b ≡ pick came (some (take n d)) none
    → join_body b (some v) ≡ some (take n d ++ v)
carried_on true n d v b l e = ap (λ (x : Option (List ℕ)). join_body x (some v)) e
carried_on false n d v b l e =
    let z : n ≡ 0 = l ∙ ap body_length e in
    rw (e, z)

module _ (limit : ℕ) (g : Gathering) (c : Record) (a : PutAgrees limit g c) where
  -- a header that is kept
  keep-joins : (bs : List ℕ) → length (c.headers ++ bs) ≤ 65535 → PutAgrees limit (keep_bytes g bs) (joined c (record { headers = bs; body = none }))
  unfolding keep_bytes
  keep-joins bs l =
      let s = length-append c.headers bs in
      let h : g.got.kept + length bs ≤ 65535 = omega arith in
      let b : join_body c.body none ≡ c.body = ap (λ (d : Record). d.body) (joined-bare c) in
      rw (le-leb _ _ h, b)
      (record {
        room = omega (arith, paste-length g.headers bs g.got.kept (omega arith));
        body-room = a.body-room;
        full = refl;
        kept = omega arith;
        kept-room = h;
        headers = ap (λ (l : List ℕ). l ++ bs) a.headers ∙ pasted g.headers bs g.got.kept (omega arith);
        body-within = a.body-within;
        over = a.over;
        body = a.body;
      })

  -- a body header: once past the limit, always past it; else by this one
  over-now : (v : List ℕ) (t u : Bool) → leb (g.got.body + length v) limit ≡ t → g.got.over ≡ u
      → pick t g.got.over true ≡ ltb limit (size_of c + length v)
  over-now v true true e w =
      let l : limit < size_of c = ltb-true _ _ (sym a.over ∙ w) in
      w ∙ sym (lt-ltb limit (size_of c + length v) (omega arith))
  over-now v false true e w =
      let l : limit < size_of c = ltb-true _ _ (sym a.over ∙ w) in
      sym (lt-ltb limit (size_of c + length v) (omega arith))
  over-now v true false e w =
      let l : g.got.body + length v ≤ limit = leb-true _ _ e in
      w ∙ sym (le-ltb limit (size_of c + length v) (omega (arith, (a.body w).0)))
  over-now v false false e w =
      let l : limit < g.got.body + length v = leb-false _ _ e in
      sym (lt-ltb limit (size_of c + length v) (omega (arith, (a.body w).0)))

  store-joins : (v : List ℕ) → PutAgrees limit (store_bytes limit g v) (joined c (record { headers = []; body = some v }))
  unfolding store_bytes
  store-joins v = go (leb (g.got.body + length v) limit) refl
    where
      sum : body_length (join_body c.body (some v)) ≡ size_of c + length v
      sum = size-joined c (record { headers = []; body = some v })

      go : (t : Bool) → leb (g.got.body + length v) limit ≡ t → PutAgrees limit (store_bytes limit g v) (joined c (record { headers = []; body = some v }))
      go true e =
          let h : g.got.body + length v ≤ limit = leb-true _ _ e in
          rw (e, append-nil c.headers)
          (record {
            room = a.room;
            body-room = omega (arith, paste-length g.body v g.got.body (omega arith));
            full = refl;
            kept = a.kept;
            kept-room = a.kept-room;
            headers = a.headers;
            body-within = h;
            over = over-now v true g.got.over e refl ∙ ap (ltb limit) (sym sum);
            body = λ w. (
              omega (arith, sum, (a.body w).0),
              carried_on g.got.came g.got.body g.body v c.body (a.body w).0 (a.body w).1
                  ∙ ap some (pasted g.body v g.got.body (omega arith)),
            );
          })
      go false e =
          rw (e, append-nil c.headers)
          (record {
            room = a.room;
            body-room = a.body-room;
            full = refl;
            kept = a.kept;
            kept-room = a.kept-room;
            headers = a.headers;
            body-within = a.body-within;
            over = over-now v false g.got.over e refl ∙ ap (ltb limit) (sym sum);
            body = λ w. absurd (let z : ◌≡◌ {A = ℕ} 0 1 = cc in omega arith);
          })

  one-joins : (f : Fate) (h : Header) → length (c.headers ++ (carried_as f h).headers) ≤ 65535
      → PutAgrees limit (gather_by f limit g h) (joined c (carried_as f h))
  one-joins kept h l = keep-joins (bytes_of h) l
  one-joins stored h l = store-joins h.value
  one-joins dropped h l = rw (joined-bare c) a

one-carried : (h : Header) → carried_one h ≡ carried_as (fate_of keep.Put h.id) h
unfolding carried_one
one-carried h = go (is_body h.id) (is_srm h.id)
  where
    go : (t u : Bool) → pick t (record { headers = []; body = some h.value }) (pick u bare (record { headers = bytes_of h; body = none }))
        ≡ carried_as (pick t stored (pick u dropped kept)) h
    go true u = refl
    go false true = refl
    go false false = refl

pub put-agrees : (limit : ℕ) (hs : List Header) (g : Gathering) (c : Record) → PutAgrees limit g c
    → length (c.headers ++ (carried_by hs).headers) ≤ 65535 → PutAgrees limit (gather_all keep.Put limit hs g) (joined c (carried_by hs))
unfolding gather_all carried_by
put-agrees limit [] g c a l = rw (joined-bare c) a
put-agrees limit (h ∷ hs) g c a l =
    let f = fate_of keep.Put h.id in
    let d = carried_as f h in
    let m : length ((c.headers ++ d.headers) ++ (carried_by hs).headers) ≤ 65535 = rw (append_assoc, ← one-carried h) l in
    rw (gather_on keep.Put limit h hs g a.full, one-carried h, ← joined_assoc c d (carried_by hs))
    (put-agrees limit hs (gather_by f limit g h) (joined c d)
    (one-joins limit g c a f h (omega (arith, length-append (c.headers ++ d.headers) (carried_by hs).headers)))
    m)

-- ---- what is kept of one packet is no longer than its headers, so it fits the header store

put-kept : (hs : List Header) → kept_of keep.Put hs ≡ (carried_by hs).headers
unfolding carried_by
put-kept [] = refl
put-kept (h ∷ hs) = rw (one-carried h) (go (fate_of keep.Put h.id) (put-kept hs))
  where
    go : (f : Fate) → kept_of keep.Put hs ≡ (carried_by hs).headers → kept_one f h ++ kept_of keep.Put hs ≡ (carried_as f h).headers ++ (carried_by hs).headers
    go kept e = ap (λ (l : List ℕ). bytes_of h ++ l) e
    go stored e = e
    go dropped e = e

pub put_full : (limit : ℕ) (hs : List Header) (g : Gathering) (c : Record) → PutAgrees limit g c
    → 65535 < length (c.headers ++ (carried_by hs).headers) → (gather_all keep.Put limit hs g).got.full ≡ true
put_full limit hs g c a = rw (← put-kept hs) (kept_full keep.Put limit hs g c.headers a.full a.kept a.kept-room)

kept-short : (k : Keep) (hs : List Header) → length (kept_of k hs) ≤ length (all_bytes hs)
unfolding all_bytes
kept-short k [] = omega arith
kept-short k (h ∷ hs) = go (fate_of k h.id) (kept-short k hs)
  where
    go : (f : Fate) → length (kept_of k hs) ≤ length (all_bytes hs) → length (kept_one f h ++ kept_of k hs) ≤ length (bytes_of h ++ all_bytes hs)
    go kept e = omega (arith, length-append (bytes_of h) (kept_of k hs), length-append (bytes_of h) (all_bytes hs))
    go stored e = omega (arith, length-append (bytes_of h) (all_bytes hs))
    go dropped e = omega (arith, length-append (bytes_of h) (all_bytes hs))

pub carried-headers : (hs : List Header) → length (carried_by hs).headers ≤ length (all_bytes hs)
carried-headers hs = rw (← put-kept hs) (kept-short keep.Put hs)

pub kept-headers : (hs : List Header) → length (kept_by_get hs) ≤ length (all_bytes hs)
kept-headers hs = rw (← get_kept hs) (kept-short keep.Get hs)
