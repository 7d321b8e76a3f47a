-- `incoming::frame::read_on` meets its contract. A turn copies a run, then one byte, and the byte's frame says whether the packet goes on.
use Rattle.std.proofs.Common.{◌≡◌, ℕ, ◌+◌, ◌≤◌, ◌<◌, List, length, drop, set, get_or, arith, refl, sym, ap, ◌∙◌, add-one}
use Rattle.std.proofs.Math.Nat.{le_antisymm}
use Rattle.std.proofs.Math.Seq.{drop-cons, drop-length}
use Rattle.incoming.specs.declared.frame.Frame.{Frame}
use Rattle.incoming.specs.declared.frame.Frame.TheVariants.{More, Whole, Short}
use Rattle.incoming.specs.Frame.{Frames, framed, frames, frames_at, frame_end}
use Rattle.incoming.proofs.frame.read_on.Goals as goal

-- a byte of the input, by where the frame stands after it
turn : (p input : List ℕ) (at i : ℕ) (f : Frame) → i < length input → f ≡ frame_end (set p at (get_or input i 0)) (at + 1)
    → framed p at i (drop i input)
    ≡ frames_at f (at + 1) (i + 1) (set p at (get_or input i 0)) (framed (set p at (get_or input i 0)) (at + 1) (i + 1) (drop (i + 1) input))
unfolding framed
turn p input at i f h e = rw (drop-cons input i 0, add-one i, e)

-- the input's end
last : (p input : List ℕ) (at i : ℕ) → i ≤ length input → length input ≤ i
    → framed p at i (drop i input) ≡ record { result = record { begun = at; taken = i; frame = More }; packet = p }
unfolding framed
last p input at i h k =
    let e : i ≡ length input = le_antisymm h k in
    let d : drop i input ≡ drop (length input) input = ap (λ (n : ℕ). drop n input) e in
    rw (d, drop-length input)

pub returns-then-input-i-clause-model : goal.returns-then-input-i-clause-model
returns-then-input-i-clause-model c =
    let b = c.bulk-m.ensures in
    sym (c.loop-i.invariant.the_same ∙ b.model ∙ last _ _ _ _ b.within.0 c.if-input-i.true)

-- a packet that does not go on ends the turns
over : (f : Frame) (b t : ℕ) (p : List ℕ) (rest : Frames) → (f ≡ More → ⊥) → frames_at f b t p rest ≡ frames (record { begun = b; taken = t; frame = f }) p
over More b t p rest k = absurd (k refl)
over Whole b t p rest k = refl
over Short b t p rest k = refl

pub returns-in_default-clause-model : goal.returns-in_default-clause-model
returns-in_default-clause-model c =
    let b = c.bulk-m in
    let l = c.loop-i in
    sym
    (l.invariant.the_same ∙ b.ensures.model
    ∙ turn b.new.packet c.args.input.now (l.at + b.result) (l.i + b.result) c.frame_end-frame.result c.if-input-i.false c.frame_end-frame.ensures.end
    ∙ over c.frame_end-frame.result _ _ _ _ c.in_default.not-More)

pub loop-i-preserved : goal.loop-i-preserved
loop-i-preserved c =
    let b = c.bulk-m in
    let l = c.loop-i in
    record {
      in_range = omega arith;
      open_yet = c.in-More.ensures.room refl;
      the_same = l.invariant.the_same ∙ b.ensures.model
          ∙ turn b.new.packet c.args.input.now (l.at + b.result) (l.i + b.result) More c.if-input-i.false c.in-More.ensures.end;
    }
