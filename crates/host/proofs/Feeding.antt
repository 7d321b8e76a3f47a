-- A call takes no more bytes than it is offered, so the part of the input that is left moves on within its store. The two calls of `feed`,
-- the end of the stream and an offer, meet the definition `Feeds`. Assumes nothing.
use mathlib.Core.Path.{◌≡◌, refl, ap, ◌∙◌}
use mathlib.Core.List.{List, [], ◌∷◌, ◌++◌}
use mathlib.Core.Bool.{Bool, true, false, ◌&&◌, ◌||◌}
use Prim.Native.Nat.{ℕ, ◌+◌, ◌-◌, ◌≤◌, ◌<◌}
use native.Mathlib.Omega.{arith}
use borrow.Author.Tests.{ltb-true, ltb-false, leb-true, le-ltb, lt-leb}
use borrow.Rule.Slice.PartMut.{put_mid, post_of, take_put}
use lib.ListN.{length, take, drop, set, length-drop, length-append}
use lib.Seq.{length-take-le}
use lib.Dec.{ltb, leb, eqb}
use Rattle.base.specs.Pick.{pick}
use Rattle.incoming.specs.Frame.{framed, frame_end, frames_at}
use Rattle.incoming.specs.declared.frame.Frame.{Frame}
use Rattle.incoming.specs.declared.frame.Frame.TheVariants.{More, Whole, Short}
use Rattle.journal.specs.Calls.{bytes_offered_of, stream_ended_of}
use Rattle.model.specs.Step.{Stores, Stepped, stepped, called, after, ends, limit_of}
use Rattle.model.specs.Calls.{bytes_offered_step, stream_ended_step, offers, framed_as, with_packet}
use Rattle.model.specs.Guard.{refuse, short, short_tables, sound, fits}
use Rattle.model.specs.Runs.{Octets}
use Rattle.model.proofs.Fit.{and_left, and_right}
use Rattle.server.specs.declared.Engine.{Engine}
use Rattle.server.specs.declared.CallResult.{CallResult}
use Rattle.server.specs.declared.CallKind.TheVariants as kind
use Rattle.server.specs.declared.End.TheVariants as end
use Rattle.server.specs.declared.Refusal.{Refusal}
use Rattle.server.specs.declared.Refusal.TheVariants as refusal
use Rattle.host.specs.Rest.{Within}
use Rattle.host.specs.Feed.{left, has_left, input_length, lead, front_of, RefilledBy, Refilled, offer, moved_on, Feeds}
use Rattle.host.specs.declared.feed.Rest.{Rest}

-- ---- how many bytes a call takes

frame_takes : (p i : List ℕ) (b t : ℕ) → (framed p b t i).result.taken ≤ t + length i
unfolding framed
frame_takes p [] b t = omega arith
frame_takes p (x ∷ xs) b t = go (frame_end (set p b x) (b + 1)) (frame_takes (set p b x) xs (b + 1) (t + 1))
  where
    go : (f : Frame) → (framed (set p b x) (b + 1) (t + 1) xs).result.taken ≤ t + 1 + length xs
        → (frames_at f (b + 1) (t + 1) (set p b x) (framed (set p b x) (b + 1) (t + 1) xs)).result.taken ≤ t + length (x ∷ xs)
    go More h = omega (arith, h)
    go Whole h = omega arith
    go Short h = omega arith

framed-takes : (f : Frame) (e : Engine) (b n : ℕ) (s : Stores) (t : List ℕ) → (framed_as f e b n s t).took.taken ≡ n
framed-takes More e b n s t = refl
framed-takes Whole e b n s t = refl
framed-takes Short e b n s t = refl

-- a call that is refused takes none
guarded-takes : (a b : Bool) (x y : Refusal) (e : Engine) (s : Stores) (m : Stepped) (n : ℕ) → m.took.taken ≤ n
    → (pick a (refuse x e s) (pick b m (refuse y e s))).took.taken ≤ n
guarded-takes true b x y e s m n h = omega arith
guarded-takes false true x y e s m n h = h
guarded-takes false false x y e s m n h = omega arith

offer-takes : (e : Engine) (i : List ℕ) (s : Stores) (t : List ℕ) → (bytes_offered_step e i s t).took.taken ≤ length i
unfolding bytes_offered_step
offer-takes e i s t =
    guarded-takes (short_tables t || short (limit_of e) s) (sound e && fits kind.FromPeer e.awaits) refusal.StoreTooShort refusal.WrongMoment
    e s (offers e (framed s.packet e.begun 0 i) s t) (length i) go
  where
    go : (offers e (framed s.packet e.begun 0 i) s t).took.taken ≤ length i
    go =
        rw (framed-takes (framed s.packet e.begun 0 i).result.frame e (framed s.packet e.begun 0 i).result.begun
        (framed s.packet e.begun 0 i).result.taken (with_packet s (framed s.packet e.begun 0 i).packet) t)
        (omega (arith, frame_takes s.packet i e.begun 0))

end-takes : (e : Engine) (s : Stores) → (stream_ended_step e s).took.taken ≡ 0
unfolding stream_ended_step
end-takes e s = go (short (limit_of e) s) (sound e && fits kind.FromPeer e.awaits)
  where
    m : Stepped
    m = after 0 (ends e e.peer (pick (eqb e.begun 0) end.Disconnected end.Truncated) s)

    go : (a b : Bool) → (pick a (refuse refusal.StoreTooShort e s) (pick b m (refuse refusal.WrongMoment e s))).took.taken ≡ 0
    go true b = refl
    go false true = refl
    go false false = refl

-- ---- what is left

left-within : (r : Rest) (i : List ℕ) → has_left r i ≡ true → Within r (length i)
left-within r i h =
    let a = ltb-true r.at r.end (and_left (ltb r.at r.end) (leb r.end (length i)) h) in
    (omega (arith, a), leb-true r.end (length i) (and_right (ltb r.at r.end) (leb r.end (length i)) h))

-- nothing is left, or what is left reaches beyond its store
pub none_left : (r : Rest) (i : List ℕ) → r.end ≤ r.at → has_left r i ≡ false
none_left r i h = simp (le-ltb r.at r.end h)

pub left_beyond : (r : Rest) (i : List ℕ) → length i < r.end → has_left r i ≡ false
left_beyond r i h = go (ltb r.at r.end)
  where
    go : (a : Bool) → (a && leb r.end (length i)) ≡ false
    go true = lt-leb r.end (length i) h
    go false = refl

pub front-within : (n : ℕ) → front_of n ≤ n
unfolding front_of
front-within n = go (ltb n input_length) refl
  where
    go : (a : Bool) → ltb n input_length ≡ a → pick a 0 lead ≤ n
    go true h = omega arith
    go false h = omega (arith, ltb-false n input_length h)

pub refilled-within : (r q : Rest) (i j : List ℕ) → Refilled r i q j → Within q (length j) × (length j ≡ length i)
refilled-within r q i j = go (has_left r i) refl
  where
    go : (a : Bool) → has_left r i ≡ a → RefilledBy a r i q j → Within q (length j) × (length j ≡ length i)
    go true h (e, f) = rw (e, f) (left-within r i h, refl)
    go false h x = (x.within, x.same_length)

-- a read puts its bytes `l` behind the front
pub reads_on : (r : Rest) (i l : List ℕ) (a n : ℕ) → has_left r i ≡ false → a ≡ front_of (length i) → n ≤ length l
    → length (put_mid a (length i - a) i l) ≡ length i → Refilled r i (record { at = a; end = a + n }) (put_mid a (length i - a) i l)
reads_on r i l a n h b k e =
    rw h
    (let w : a ≤ length i = rw b (front-within (length i)) in
    record {
      begins = b;
      within = (
        omega arith,
        omega (
          arith,
          k,
          length-append (take a i) (l ++ post_of a (length i - a) i),
          length-append l (post_of a (length i - a) i),
          length-take-le a i w,
        ),
      );
      same_length = e;
      front = take_put a (length i - a) i l w;
    })

-- a part that stays as long as it was leaves the store as long as it was
pub put-length : (i l : List ℕ) (a : ℕ) → a ≤ length i → length l ≡ length i - a → length (put_mid a (length i - a) i l) ≡ length i
put-length i l a w e =
    omega (
      arith,
      e,
      length-append (take a i) (l ++ post_of a (length i - a) i),
      length-append l (post_of a (length i - a) i),
      length-take-le a i w,
      length-drop (length i - a) (drop a i),
      length-drop a i,
    )

left-length : (r : Rest) (i : List ℕ) → Within r (length i) → length (left r i) ≡ r.end - r.at
left-length r i (a, b) = length-take-le (r.end - r.at) (drop r.at i) (omega (arith, a, b, length-drop r.at i))

offer-some : (l : List ℕ) → 0 < length l → offer l ≡ bytes_offered_of l
offer-some [] h = absurd (omega (arith, h))
offer-some (x ∷ xs) h = refl

offer-none : (l : List ℕ) → length l ≡ 0 → offer l ≡ stream_ended_of
offer-none [] h = refl
offer-none (x ∷ xs) h = absurd (omega (arith, h))

-- ---- the two calls

module _ (e : Engine) (r q : Rest) (i : List ℕ) (s : Stores) (t : List ℕ) (took : CallResult) (j : List ℕ) (z : Stores)
    (h : Refilled r i q j) where
  pub feeds_end : q.at ≡ q.end → stepped took z ≡ stream_ended_step e s → Feeds e r i s t (record { took = took; rest = q }) j z
  feeds_end n m =
      let none : length (left q j) ≡ 0 = left-length q j (refilled-within r q i j h).0 ∙ omega (arith, n) in
      record {
        offered = q;
        refilled = h;
        says =
            record {
              step = rw (offer-none (left q j) none) (ap (λ (x : Stepped). called x t) m);
              octets = rw (offer-none (left q j) none) tt;
            };
        rest = ap (λ (n : ℕ). record { at = n; end = q.end }) (omega (arith, ap (λ (x : Stepped). x.took.taken) m ∙ end-takes e s));
        within = (refilled-within r q i j h).0;
      }

  pub takes-left : stepped took z ≡ bytes_offered_step e (left q j) s t → q.at + took.taken ≤ q.end
  takes-left m =
      let n = left-length q j (refilled-within r q i j h).0 in
      let k = ap (λ (x : Stepped). x.took.taken) m in
      let w = (refilled-within r q i j h).0.0 in
      omega (arith, n, k, w, offer-takes e (left q j) s t)

  pub feeds_offer : (q.at ≡ q.end → ⊥) → stepped took z ≡ bytes_offered_step e (left q j) s t → Octets (left q j)
      → Feeds e r i s t (record { took = took; rest = moved_on q took.taken }) j z
  feeds_offer n m o =
      let w = (refilled-within r q i j h).0 in
      let some : 0 < length (left q j) = rw (left-length q j w) (omega (arith, n, w.0)) in
      record {
        offered = q;
        refilled = h;
        says =
            record {
              step = rw (offer-some (left q j) some) (ap (λ (x : Stepped). called x t) m);
              octets = rw (offer-some (left q j) some) o;
            };
        rest = refl;
        within = (takes-left m, w.1);
      }
