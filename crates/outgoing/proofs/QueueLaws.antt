-- What `insert_early` and `rewind` leave in the stores, read as headers, is what the definitions over lists of headers say. Assumes nothing.
use mathlib.Core.Path.{◌≡◌, refl, sym, ap, ap₂, ◌∙◌}
use mathlib.Core.Bool.{Bool, true, false, ◌||◌}
use mathlib.Core.Option.{Option, none, some}
use mathlib.Core.List.{List, [], ◌∷◌, ◌++◌, append_assoc, append-nil}
use Prim.Native.Nat.{ℕ, zero, suc, ◌+◌, ◌-◌, ◌≤◌, ◌<◌}
use native.Mathlib.Omega.{arith}
use lib.ListN.{length, take, drop, length-append}
use lib.Seq.{length-take-le, take-add, take_at, drop_at, take-take, drop-drop}
use borrow.Author.Tests.{le-ltb}
use lib.Dec.{ltb}
use Rattle.base.specs.Pick.{pick}
use Rattle.packet.specs.Header.{Header, header_at_of, part, read_headers, bytes_of, all_bytes}
use Rattle.packet.specs.declared.header.HeaderEncoding.{HeaderEncoding}
use Rattle.packet.specs.declared.header.HeaderAt.{HeaderAt}
use Rattle.packet.specs.declared.header.HeaderAt.TheVariants.{At, Unreadable, End}
use Rattle.packet.specs.declared.tlv.Wrote.TheVariants as wrote
use Rattle.packet.specs.Placed.{numbered}
use Rattle.packet.proofs.HeaderBytes.{Octets, part_length, header_at_bytes, header_at_within, header-bytes}
use Rattle.packet.proofs.HeaderLaws.{by_cursor_lem, first_of}
use Rattle.packet.proofs.HeaderWrites.{Shaped, AllShaped, read-written, read_shaped}
use Rattle.outgoing.specs.declared.queue.Part.{Part}
use Rattle.outgoing.specs.declared.queue.Part.TheVariants.{All, Headers, Chunks, Nothing}
use Rattle.outgoing.specs.Queue.{must_lead, insert_early, is_chunk, Pending, Queue, put_back, rewind}
use Rattle.outgoing.specs.Queue.{put_in, lead_end, inserted_early, back, back_from, back_bytes, headers_back, body_back, Rewinding, rewound}
use Rattle.outgoing.proofs.Walking.{lead-step, back_step}

-- ---- parts of a list

part-front : (d : List ℕ) (at n : ℕ) → at ≤ n → n ≤ length d → part d at n ≡ drop at (take n d)
part-front d at n h k =
    let e : n ≡ at + (n - at) = omega arith in
    sym
    (ap (λ (m : ℕ). drop at (take m d)) e
    ∙ ap (drop at) (take-add at (n - at) d)
    ∙ drop_at (take at d) (part d at n) at (length-take-le at d (omega arith)))

part_none : (s : List ℕ) (at : ℕ) → part s at at ≡ []
part_none s at = let e : at - at ≡ 0 = omega arith in ap (λ (n : ℕ). take n (drop at s)) e

-- two parts, one behind the other
part-append : (s : List ℕ) (at to end : ℕ) → at ≤ to → to ≤ end → part s at to ++ part s to end ≡ part s at end
part-append s at to end h k =
    let e : end - at ≡ to - at + (end - to) = omega arith in
    let f : at + (to - at) ≡ to = omega arith in
    sym
    (ap (λ (n : ℕ). take n (drop at s)) e
    ∙ take-add (to - at) (end - to) (drop at s)
    ∙ ap (λ (l : List ℕ). part s at to ++ take (end - to) l) (drop-drop (to - at) at s ∙ ap (λ (n : ℕ). drop n s) f))

-- the front of a store that bytes were put into
put_in_front : (d l : List ℕ) (at n : ℕ) → at ≤ n → n + length l ≤ length d
    → take (n + length l) (put_in d at n l) ≡ take at d ++ (l ++ drop at (take n d))
unfolding put_in
put_in_front d l at n h k =
    let a = take at d in
    let v = part d at n in
    let r = drop (n + length l) d in
    let size : length (a ++ (l ++ v)) ≡ n + length l =
    omega (arith, length-append a (l ++ v), length-append l v, length-take-le at d (omega arith), part_length d at n (omega arith)) in
    ap (take (n + length l)) (ap (λ (t : List ℕ). a ++ t) (sym (append_assoc l v r)) ∙ sym (append_assoc a (l ++ v) r))
    ∙ take_at (a ++ (l ++ v)) r (n + length l) size
    ∙ ap (λ (t : List ℕ). a ++ (l ++ t)) (part-front d at n h (omega arith))

-- ---- a header that is put in early

-- the headers before the place where those that must lead end, the header, and those behind it
record Early (s : List ℕ) (at : ℕ) (x : Header) (hs : List Header) : Type 0 where
  ahead : at ≤ lead_end s at
  within : lead_end s at ≤ length s
  bytes : part s at (lead_end s at) ++ (bytes_of x ++ drop (lead_end s at) s) ≡ all_bytes (insert_early x hs)

-- where none must lead it goes in front
early-here : (s : List ℕ) (at : ℕ) (x : Header) (hs : List Header) → Octets s → at ≤ length s → read_headers s at ≡ some hs → lead_end s at ≡ at
    → insert_early x hs ≡ x ∷ hs → Early s at x hs
unfolding all_bytes
early-here s at x hs o h e l q =
    record {
      ahead = omega arith;
      within = omega arith;
      bytes =
          ap (λ (n : ℕ). part s at n ++ (bytes_of x ++ drop n s)) l
          ∙ ap₂ (λ (u v : List ℕ). u ++ (bytes_of x ++ v)) (part_none s at) (sym (header-bytes s at hs o e))
          ∙ sym (ap all_bytes q);
    }

-- a header at the place, by whether it must lead
early-next : (s : List ℕ) (at : ℕ) (x : Header) (hs rest : List Header) (id from to : ℕ) (c : HeaderEncoding) → Octets s → read_headers s at ≡ some hs
    → header_at_of s at ≡ At id c from to → hs ≡ record { id = id; value = part s from to } ∷ rest → Early s to x rest → (t : Bool)
    → must_lead id ≡ t → Early s at x hs
unfolding insert_early all_bytes
early-next s at x hs rest id from to c o e q i r true m =
    let y : Header = record { id = id; value = part s from to } in
    let w = header_at_within s at id c from to q in
    let l : lead_end s at ≡ lead_end s to = lead-step s at (At id c from to) q ∙ ap (λ (b : Bool). pick b (lead_end s to) at) m in
    let j : insert_early x hs ≡ y ∷ insert_early x rest =
    ap (insert_early x) i ∙ ap (λ (b : Bool). pick b (y ∷ insert_early x rest) (x ∷ (y ∷ rest))) m in
    let f = lead_end s to in
    record {
      ahead = omega (arith, r.ahead);
      within = omega (arith, r.within);
      bytes =
          ap (λ (n : ℕ). part s at n ++ (bytes_of x ++ drop n s)) l
          ∙ ap (λ (u : List ℕ). u ++ (bytes_of x ++ drop f s)) (sym (part-append s at to f (omega arith) r.ahead))
          ∙ append_assoc (part s at to) (part s to f) (bytes_of x ++ drop f s)
          ∙ ap₂ (λ (u v : List ℕ). u ++ v) (sym (header_at_bytes s at id c from to o q)) r.bytes
          ∙ sym (ap all_bytes j);
    }
early-next s at x hs rest id from to c o e q i r false m =
    let y : Header = record { id = id; value = part s from to } in
    let w = header_at_within s at id c from to q in
    early-here s at x hs o (omega arith) e (lead-step s at (At id c from to) q ∙ ap (λ (b : Bool). pick b (lead_end s to) at) m)
    (ap (insert_early x) i
    ∙ ap (λ (b : Bool). pick b (y ∷ insert_early x rest) (x ∷ (y ∷ rest))) m
    ∙ ap (λ (l : List Header). x ∷ l) (sym i))

early_by : (s : List ℕ) (at : ℕ) (x : Header) (hs : List Header) → Octets s → at ≤ length s → read_headers s at ≡ some hs
    → ((to : ℕ) (rest : List Header) → length s - to < length s - at → to ≤ length s → read_headers s to ≡ some rest → Early s to x rest)
    → (a : HeaderAt) → header_at_of s at ≡ a → Early s at x hs
unfolding insert_early
early_by s at x hs o h e on End q =
    let w = (by_cursor_lem s at End q).1 in
    let z : hs ≡ [] = cc in
    early-here s at x hs o h e (lead-step s at End q) (ap (insert_early x) z ∙ ap (λ (l : List Header). x ∷ l) (sym z))
early_by s at x hs o h e on Unreadable q =
    let w = by_cursor_lem s at Unreadable q in
    let z : ◌≡◌ {A = ℕ} 0 1 = cc in
    absurd (omega arith)
early_by s at x hs o h e on (At id c from to) q =
    let w = by_cursor_lem s at (At id c from to) q in
    let k = first_of (record { id = id; value = part s from to }) (read_headers s to) hs (sym w.list ∙ e) in
    early-next s at x hs k.rest id from to c o e q k.is
    (on to k.rest (omega (arith, w.next, w.stands.fits)) w.stands.fits k.of) (must_lead id) refl

early-walk : (n : ℕ) (s : List ℕ) (at : ℕ) (x : Header) (hs : List Header) → length s - at < n → Octets s → at ≤ length s
    → read_headers s at ≡ some hs → Early s at x hs
early-walk zero s at x hs l o h e = absurd (omega arith)
early-walk (suc n) s at x hs l o h e =
    early_by s at x hs o h e (λ to rest m j w. early-walk n s to x rest (omega arith) o j w) (header_at_of s at) refl

-- a header that is shaped keeps the list so
early_shaped : (x : Header) (hs : List Header) → Shaped x → AllShaped hs → AllShaped (insert_early x hs)
unfolding insert_early
early_shaped x [] w v = (w, tt)
early_shaped x (h ∷ hs) w v = go (must_lead h.id) (early_shaped x hs w v.1)
  where
    go : (t : Bool) → AllShaped (insert_early x hs) → AllShaped (pick t (h ∷ insert_early x hs) (x ∷ (h ∷ hs)))
    go true r = (v.0, r)
    go false r = (w, v)

-- the header `x` that stands in the bytes `h` is put in early: what the store then holds reads as the list with it
pub early-read : (d h : List ℕ) (n : ℕ) (x : Header) (hs : List Header) → Octets (take n d) → Octets h → read_headers (take n d) 0 ≡ some hs
    → read_headers h 0 ≡ some (x ∷ []) → n + length h ≤ length d
    → read_headers (take (n + length h) (inserted_early d n h).store) 0 ≡ some (insert_early x hs)
unfolding inserted_early all_bytes
early-read d h n x hs o p e f k =
    let s = take n d in
    let m = length-take-le n d (omega arith) in
    let w = early-walk (suc (length s)) s 0 x hs (omega arith) o (omega arith) e in
    let a = lead_end s 0 in
    let b : bytes_of x ≡ h = sym (append-nil (bytes_of x)) ∙ header-bytes h 0 (x ∷ []) p f in
    let c : a - 0 ≡ a = omega arith in
    let g : take a d ≡ part s 0 a = sym (ap (λ (i : ℕ). take i s) c ∙ take-take a n d (omega (arith, w.within))) in
    let z : take (n + length h) (inserted_early d n h).store ≡ all_bytes (insert_early x hs) =
    ap (λ (t : Bool). take (n + length h) (pick t (numbered 10 wrote.Short d) (numbered 0 (wrote.Written (n + length h)) (put_in d a n h))).store)
    (le-ltb (length d) (n + length h) k)
    ∙ put_in_front d h a n (omega (arith, w.within)) k
    ∙ ap₂ (λ (u v : List ℕ). u ++ (v ++ drop a s)) g (sym b)
    ∙ w.bytes in
    read-written (insert_early x hs) (take (n + length h) (inserted_early d n h).store) 0
    (early_shaped x hs (read_shaped h 0 (x ∷ []) f).0 (read_shaped s 0 hs e)) z

-- ---- a packet that is put back

-- a body with these bytes, or none
abbrev pub body_of : Bool → List ℕ → Bool → Option Pending
body_of true bytes eof = some (record { bytes = bytes; eof = eof })
body_of false bytes eof = none

-- what goes back of one header: of its bytes, or of its value
abbrev piece_bytes_of : Part → Bool → List ℕ → List ℕ → List ℕ
piece_bytes_of All t whole value = whole
piece_bytes_of Headers t whole value = pick t [] whole
piece_bytes_of Chunks t whole value = pick t value []
piece_bytes_of Nothing t whole value = []

piece_bytes : (p : Part) (t : Bool) (s : List ℕ) (at from to : ℕ)
    → part s (back_from p t at from to) to ≡ piece_bytes_of p t (part s at to) (part s from to)
piece_bytes All t s at from to = refl
piece_bytes Headers true s at from to = part_none s to
piece_bytes Headers false s at from to = refl
piece_bytes Chunks true s at from to = refl
piece_bytes Chunks false s at from to = part_none s to
piece_bytes Nothing t s at from to = part_none s to

-- what goes back so far, beside the definition over lists
record Returned (b : Bool) (q : Queue) (kept chunks hs bytes : List ℕ) (eof : Bool) : Type 0 where
  body : q.body ≡ body_of b (chunks ++ bytes) eof
  headers : all_bytes q.headers ≡ kept ++ hs

returned-one : (b t : Bool) (h : Header) (q : Queue) (kept chunks hs bytes whole value : List ℕ) (eof : Bool) → bytes_of h ≡ whole → h.value ≡ value
    → Returned b q kept chunks hs bytes eof
    → Returned b (put_back t h q.body q.headers) (piece_bytes_of (headers_back b) t whole value ++ kept)
    (piece_bytes_of (body_back b) t whole value ++ chunks) hs bytes eof
unfolding all_bytes
returned-one true true h q kept chunks hs bytes whole value eof e f r =
    record {
      body =
          ap (λ (o : Option Pending). (put_back true h o q.headers).body) r.body
          ∙ ap (λ (v : List ℕ). body_of true v eof) (ap (λ (v : List ℕ). v ++ (chunks ++ bytes)) f ∙ sym (append_assoc value chunks bytes));
      headers = ap (λ (o : Option Pending). all_bytes (put_back true h o q.headers).headers) r.body ∙ r.headers;
    }
returned-one true false h q kept chunks hs bytes whole value eof e f r =
    record { body = r.body; headers = ap₂ (λ (u v : List ℕ). u ++ v) e r.headers ∙ sym (append_assoc whole kept hs) }
returned-one false true h q kept chunks hs bytes whole value eof e f r =
    record {
      body = ap (λ (o : Option Pending). (put_back true h o q.headers).body) r.body;
      headers =
          ap (λ (o : Option Pending). all_bytes (put_back true h o q.headers).headers) r.body
          ∙ ap₂ (λ (u v : List ℕ). u ++ v) e r.headers
          ∙ sym (append_assoc whole kept hs);
    }
returned-one false false h q kept chunks hs bytes whole value eof e f r =
    record { body = r.body; headers = ap₂ (λ (u v : List ℕ). u ++ v) e r.headers ∙ sym (append_assoc whole kept hs) }

abbrev Back : Bool → List ℕ → ℕ → Queue → List ℕ → List ℕ → Bool → Type 0
Back b p at q hs bytes eof = Returned b q (back_bytes (headers_back b) p at) (back_bytes (body_back b) p at) hs bytes eof

back_by : (b : Bool) (p : List ℕ) (at : ℕ) (xs : List Header) (q : Queue) (bytes : List ℕ) (eof : Bool) → Octets p → read_headers p at ≡ some xs
    → q.body ≡ body_of b bytes eof
    → ((to : ℕ) (rest : List Header) → length p - to < length p - at → read_headers p to ≡ some rest
    → Back b p to (rewind rest q) (all_bytes q.headers) bytes eof)
    → (a : HeaderAt) → header_at_of p at ≡ a → Back b p at (rewind xs q) (all_bytes q.headers) bytes eof
unfolding rewind
back_by b p at xs q bytes eof o e d on End h =
    let w = (by_cursor_lem p at End h).1 in
    let z : xs ≡ [] = cc in
    record {
      body =
          ap (λ (l : List Header). (rewind l q).body) z
          ∙ d
          ∙ ap (λ (v : List ℕ). body_of b (v ++ bytes) eof) (sym (back_step (body_back b) p at End h));
      headers =
          ap (λ (l : List Header). all_bytes (rewind l q).headers) z
          ∙ ap (λ (v : List ℕ). v ++ all_bytes q.headers) (sym (back_step (headers_back b) p at End h));
    }
back_by b p at xs q bytes eof o e d on Unreadable h =
    let w = by_cursor_lem p at Unreadable h in
    let z : ◌≡◌ {A = ℕ} 0 1 = cc in
    absurd (omega arith)
back_by b p at xs q bytes eof o e d on (At id c from to) h =
    let w = by_cursor_lem p at (At id c from to) h in
    let y : Header = record { id = id; value = part p from to } in
    let k = first_of y (read_headers p to) xs (sym w.list ∙ e) in
    let hs = all_bytes q.headers in
    let r = on to k.rest (omega (arith, w.next, w.stands.fits)) k.of in
    let one = returned-one b (is_chunk id) y (rewind k.rest q) (back_bytes (headers_back b) p to) (back_bytes (body_back b) p to) hs bytes
    (part p at to) (part p from to) eof (header_at_bytes p at id c from to o h) refl r in
    let j : (v : Part) → back_bytes v p at ≡ piece_bytes_of v (is_chunk id) (part p at to) (part p from to) ++ back_bytes v p to =
    λ v. back_step v p at (At id c from to) h ∙ ap (λ (l : List ℕ). l ++ back_bytes v p to) (piece_bytes v (is_chunk id) p at from to) in
    record {
      body =
          ap (λ (l : List Header). (rewind l q).body) k.is
          ∙ one.body
          ∙ ap (λ (v : List ℕ). body_of b (v ++ bytes) eof) (sym (j (body_back b)));
      headers =
          ap (λ (l : List Header). all_bytes (rewind l q).headers) k.is
          ∙ one.headers
          ∙ ap (λ (v : List ℕ). v ++ hs) (sym (j (headers_back b)));
    }

back-walk : (n : ℕ) (b : Bool) (p : List ℕ) (at : ℕ) (xs : List Header) (q : Queue) (bytes : List ℕ) (eof : Bool) → length p - at < n → Octets p
    → read_headers p at ≡ some xs → q.body ≡ body_of b bytes eof → Back b p at (rewind xs q) (all_bytes q.headers) bytes eof
back-walk zero b p at xs q bytes eof l o e d = absurd (omega arith)
back-walk (suc n) b p at xs q bytes eof l o e d =
    back_by b p at xs q bytes eof o e d (λ to rest m w. back-walk n b p to rest q bytes eof (omega arith) o w d) (header_at_of p at) refl

-- headers that are shaped stay so
back_shaped : (xs : List Header) (q : Queue) → AllShaped xs → AllShaped q.headers → AllShaped (rewind xs q).headers
unfolding rewind
back_shaped [] q w v = v
back_shaped (x ∷ xs) q w v = go (is_chunk x.id) (rewind xs q).body (back_shaped xs q w.1 v)
  where
    go : (t : Bool) (d : Option Pending) → AllShaped (rewind xs q).headers → AllShaped (put_back t x d (rewind xs q).headers).headers
    go true (some d) r = r
    go true none r = (w.0, r)
    go false d r = (w.0, r)

-- the headers `xs` of the packet `p` are put back to the headers `ys` and the body in two stores: what these then hold is what `rewind` says
pub record Restored (b : Bool) (p hs : List ℕ) (n : ℕ) (bs : List ℕ) (m : ℕ) (q : Queue) (eof : Bool) : Type 0 where
  pub headers : read_headers (take (n + length (back_bytes (headers_back b) p 0)) (rewound b p hs n bs m).headers) 0 ≡ some q.headers
  pub body : q.body ≡ body_of b (take (m + length (back_bytes (body_back b) p 0)) (rewound b p hs n bs m).body) eof

pub rewound-read : (b : Bool) (p hs : List ℕ) (n : ℕ) (bs : List ℕ) (m : ℕ) (xs ys : List Header) (eof : Bool) → Octets p → Octets (take n hs)
    → read_headers p 0 ≡ some xs → read_headers (take n hs) 0 ≡ some ys → n + length (back_bytes (headers_back b) p 0) ≤ length hs
    → m + length (back_bytes (body_back b) p 0) ≤ length bs
    → Restored b p hs n bs m (rewind xs (record { headers = ys; body = body_of b (take m bs) eof })) eof
unfolding rewound
rewound-read b p hs n bs m xs ys eof o oh e f g h =
    let kept = back_bytes (headers_back b) p 0 in
    let chunks = back_bytes (body_back b) p 0 in
    let q : Queue = record { headers = ys; body = body_of b (take m bs) eof } in
    let r = back-walk (suc (length p)) b p 0 xs q (take m bs) eof (omega arith) o e refl in
    let fits : (ltb (length hs) (n + length kept) || ltb (length bs) (m + length chunks)) ≡ false =
    ap₂ (λ (t u : Bool). t || u) (le-ltb (length hs) (n + length kept) g) (le-ltb (length bs) (m + length chunks) h) in
    let done : rewound b p hs n bs m ≡ record {
      answer = back (n + length kept) (m + length chunks);
      number = 0;
      headers = put_in hs 0 n kept;
      body = put_in bs 0 m chunks;
    } = rw fits in
    let front : take (n + length kept) (rewound b p hs n bs m).headers ≡ all_bytes (rewind xs q).headers =
    ap (λ (w : Rewinding). take (n + length kept) w.headers) done
    ∙ put_in_front hs kept 0 n (omega arith) g
    ∙ ap (λ (l : List ℕ). kept ++ l) (sym (header-bytes (take n hs) 0 ys oh f))
    ∙ sym r.headers in
    record {
      headers =
          read-written (rewind xs q).headers (take (n + length kept) (rewound b p hs n bs m).headers) 0
          (back_shaped xs q (read_shaped p 0 xs e) (read_shaped (take n hs) 0 ys f)) front;
      body =
          r.body
          ∙ ap (λ (l : List ℕ). body_of b l eof)
          (sym (ap (λ (w : Rewinding). take (m + length chunks) w.body) done ∙ put_in_front bs chunks 0 m (omega arith) h));
    }
