-- An offer of bytes that goes: how many were taken, what stands in the packet store, and that bytes are wanted while the packet goes on. By where
-- the frame stands; a whole packet's step leaves the packet store. Assumes nothing.
use mathlib.Core.Path.{◌≡◌, refl, sym, ap, ◌∙◌, subst}
use mathlib.Core.Bool.{Bool, true, false, ◌&&◌}
use mathlib.Core.List.{List, []}
use Prim.Native.Nat.{ℕ, ◌≤◌}
use native.Mathlib.Omega.{arith}
use lib.ListN.{take}
use lib.Seq.{length-take-le}
use Rattle.base.specs.Pick.{pick}
use Rattle.packet.specs.Packet.{request_of}
use Rattle.journal.specs.Calls.{Call, goes, refused}
use Rattle.journal.specs.Journal.{Read, more, whole, short, read_up}
use Rattle.incoming.specs.Frame.{Frames, framed}
use Rattle.incoming.specs.declared.frame.Frame.{Frame}
use Rattle.incoming.specs.declared.frame.Frame.TheVariants.{More, Whole, Short}
use Rattle.incoming.proofs.Frames.{Octets, Agrees as Frames-agree, frames_agree, frames-count}
use Rattle.server.specs.Numbers.{refusal_number}
use Rattle.server.specs.declared.Await.TheVariants as await
use Rattle.server.specs.declared.Outcome.TheVariants as outcome
use Rattle.server.specs.declared.Refusal.{Refusal}
use Rattle.server.specs.declared.Refusal.TheVariants as refusal
use Rattle.model.specs.Step.{Stores, Called}
use Rattle.model.specs.Guard.{sound, fits}
use Rattle.model.specs.Calls.{framed_as, with_packet, offers}
use Rattle.model.specs.Dispatch.{packet_target, arrived, packet_done}
use Rattle.model.specs.Refusals.{verdict_of}
use Rattle.model.specs.Runs.{State, keeps, step_of}
use Rattle.model.proofs.Fit.{Seated}
use Rattle.model.proofs.Moments.{kind_of, go_for, refuses, lacks_in, step_is}
use Rattle.model.proofs.Carries.{read-carries}
use Rattle.reception.proofs.Begun.{short-third}
use Rattle.reception.proofs.Framing.{begun_is}

-- ---- a call that goes is at its moment

refused-goes : (n : ℕ) → refused n ≡ goes → ⊥
refused-goes n e = let z : ◌≡◌ {A = ℕ} 0 1 = cc in omega arith

module _ (s : State) (c : Call) (g : verdict_of (step_of s c).took.outcome ≡ goes) where
  not-refused : (r : Refusal) → step_of s c ≡ refuses r s → ⊥
  not-refused r f = refused-goes (refusal_number r) (sym (ap (λ (m : Called). verdict_of m.took.outcome) f) ∙ g)

  pub goes_is : (fits (kind_of c) s.engine.awaits ≡ true) × (step_of s c ≡ go_for s c)
  goes_is = go (lacks_in s c) (sound s.engine) (fits (kind_of c) s.engine.awaits) refl (step_is s c)
    where
      go : (x y z : Bool) → fits (kind_of c) s.engine.awaits ≡ z
          → step_of s c ≡ pick x (refuses refusal.StoreTooShort s) (pick (y && z) (go_for s c) (refuses refusal.WrongMoment s))
          → (fits (kind_of c) s.engine.awaits ≡ true) × (step_of s c ≡ go_for s c)
      go true y z e f = absurd (not-refused refusal.StoreTooShort f)
      go false false z e f = absurd (not-refused refusal.WrongMoment f)
      go false true false e f = absurd (not-refused refusal.WrongMoment f)
      go false true true e f = (e, f)

-- ---- bytes

-- what is known of an offer of the bytes `i` on the state `s` that came to `m`
pub record Offered (s : State) (i : List ℕ) (m : Called) : Type 0 where
  pub awaited : s.engine.awaits ≡ await.Bytes
  pub taken : m.took.taken ≡ (framed s.stores.packet s.engine.begun 0 i).result.taken
  pub packet : m.stores.packet ≡ (framed s.stores.packet s.engine.begun 0 i).packet
  pub small : (framed s.stores.packet s.engine.begun 0 i).result.begun ≤ 65535
  pub wants : (q : List ℕ) → read_up (take s.engine.begun s.stores.packet) i ≡ more q → m.took.outcome ≡ outcome.WantsBytes

module _ (s : State) (h : Seated s) (i : List ℕ) (o : Octets i) (at : s.engine.awaits ≡ await.Bytes)
    (on : read_up [] (take s.engine.begun s.stores.packet) ≡ more (take s.engine.begun s.stores.packet)) where
  open s use {engine as e, stores as st, tables as ts}

  abbrev f : Frames
  f = framed st.packet e.begun 0 i

  abbrev z : Stores
  z = with_packet st f.packet

  abbrev held : List ℕ
  held = take e.begun st.packet

  abbrev came : Frame → Called
  came c = keeps s (framed_as c e f.result.begun f.result.taken z ts)

  whole-keeps : (packet_done e f.result.begun z ts).stores.packet ≡ f.packet
  unfolding packet_done
  whole-keeps =
      let q = take f.result.begun f.packet in
      (read-carries (arrived e f.result.begun (packet_target (request_of q) e ts)) z q ts (request_of q)).packet

  -- the part of it that the frame alone tells
  takes : (c : Frame) → (came c).took.taken ≡ f.result.taken
  takes More = refl
  takes Whole = refl
  takes Short = refl

  leaves : (c : Frame) → (came c).stores.packet ≡ f.packet
  leaves More = refl
  leaves Whole = whole-keeps
  leaves Short = refl

  short-small : read_up held i ≡ short → f.result.begun ≤ 65535
  short-small r =
      let n = frames-count st.packet i e.begun 0 h.sits.begun.small h.sits.base.room.packet h.sits.begun.octets o in
      let b = begun_is st.packet i e.begun in
      let t = short-third held i on r in
      let l = length-take-le e.begun st.packet (omega (arith, h.sits.begun.small, h.sits.base.room.packet)) in
      omega (arith, n, b, t, l)

  small_by : (r : Read) → read_up held i ≡ r → Frames-agree st.packet f r → f.result.begun ≤ 65535
  small_by (more q) u a = let b = a.2 in omega (arith, b)
  small_by (whole q) u a = a.2
  small_by short u a = short-small u

  wants_by : (q : List ℕ) → Frames-agree st.packet f (more q) → (came f.result.frame).took.outcome ≡ outcome.WantsBytes
  wants_by q a = ap (λ (c : Frame). (came c).took.outcome) a.0

  pub offer_is : (m : Called) → m ≡ keeps s (offers e f st ts) → Offered s i m
  offer_is m u =
      let a = frames_agree st.packet i e.begun 0 h.sits.begun.small h.sits.base.room.packet h.sits.begun.octets o
      h.sits.begun.goes_on in
      record {
        awaited = at;
        taken = ap (λ (x : Called). x.took.taken) u ∙ takes f.result.frame;
        packet = ap (λ (x : Called). x.stores.packet) u ∙ leaves f.result.frame;
        small = small_by (read_up held i) refl a;
        wants = λ q r. ap (λ (x : Called). x.took.outcome) u ∙ wants_by q (subst (Frames-agree st.packet f) r a);
      }
