-- `incoming::frame::read_packet` meets its contract. If the packet goes on after the bytes that are there, those that are offered follow;
-- otherwise they would change nothing (`in_turn`).
use borrow.Author.Rules.{rules}
use native.Mathlib.Omega.{arith}
use mathlib.Core.Path.{◌≡◌, refl, sym, ap, ◌∙◌}
use mathlib.Core.List.{List}
use Prim.Native.Nat.{ℕ, ◌+◌}
use mir.Val.{Fits}
use mir.Syntax.{w64}
use Rattle.incoming.specs.declared.frame.Frame.{Frame}
use Rattle.incoming.specs.declared.frame.Frame.TheVariants.{More, Whole, Short}
use Rattle.incoming.specs.declared.frame.Framed.{Framed}
use Rattle.incoming.specs.Frame.{Frames, frames, framed, placed_in, coming}
use Rattle.incoming.proofs.BytesPlaced.{then_all, in_turn, later, taken-later, counts}
use Rattle.incoming.proofs.frame.read_packet.Goals as goal

-- what is offered follows what is there, and as many were taken before
follows : (p i q : List ℕ) (b n : ℕ) (f g : Framed) → frames f p ≡ framed p b 0 (placed_in p b n) → f.frame ≡ More
    → frames g q ≡ framed p f.begun 0 i
    → frames (record { begun = g.begun; taken = f.taken + g.taken; frame = g.frame }) q ≡ framed p b 0 (coming p b n i)
follows p i q b n f g h m k =
    ap (later f.taken) k
    ∙ sym (taken-later p f.begun f.taken 0 i)
    ∙ ap (λ (t : ℕ). framed p f.begun t i) (omega arith)
    ∙ ap (λ (x : Frame). then_all x (frames f p) i) (sym m)
    ∙ ap (λ (x : Frames). then_all x.result.frame x i) h
    ∙ sym (in_turn p b 0 (placed_in p b n) i)

-- as many are taken in all as the packet has more, which is a number of the machine
sum_fits : (p i q : List ℕ) (b n : ℕ) (f g : Framed) → frames f p ≡ framed p b 0 (placed_in p b n) → frames g q ≡ framed p f.begun 0 i
    → Fits w64 g.begun → Fits w64 (f.taken + g.taken)
sum_fits p i q b n f g h k w =
    let a : f.begun + 0 ≡ f.taken + b = ap (λ (x : Frames). x.result.begun + 0) h ∙ counts p b 0 (placed_in p b n) ∙ ap (λ (x : Frames). x.result.taken + b) (sym h) in
    let c : g.begun + 0 ≡ g.taken + f.begun = ap (λ (x : Frames). x.result.begun + 0) k ∙ counts p f.begun 0 i ∙ ap (λ (x : Frames). x.result.taken + f.begun) (sym k) in
    omega (arith, a, c, w)

-- nothing follows a packet that has ended
over : (x : Frame) (f : Frames) (i : List ℕ) → (x ≡ More → ⊥) → f ≡ then_all x f i
over More f i k = absurd (k refl)
over Whole f i k = refl
over Short f i k = refl

stays : (p i : List ℕ) (b n : ℕ) (f : Framed) → frames f p ≡ framed p b 0 (placed_in p b n) → (f.frame ≡ More → ⊥)
    → frames f p ≡ framed p b 0 (coming p b n i)
stays p i b n f h k =
    over f.frame (frames f p) i k ∙ ap (λ (x : Frames). then_all x.result.frame x i) h ∙ sym (in_turn p b 0 (placed_in p b n) i)

pub returns-in_default : goal.returns-in_default
returns-in_default c =
    let r = c.read_placed-f in
    let x = c.args in record {
      whole = r.ensures.whole;
      model = stays x.packet.now x.input.now x.begun x.placed r.result r.ensures.model c.in_default.not-More;
    }

pub overflow_add-result : goal.overflow_add-result
overflow_add-result c =
    let r = c.read_placed-f in
    let x = c.args in
    sum_fits x.packet.now x.input.now _ x.begun x.placed r.result c.read_offered-g.result r.ensures.model
    c.read_offered-g.ensures.model (search rules)

pub returns : goal.returns
returns c =
    let r = c.read_placed-f in
    let x = c.args in record {
      whole = c.read_offered-g.ensures.whole;
      model = follows x.packet.now x.input.now _ x.begun x.placed r.result c.read_offered-g.result r.ensures.model c.in-More.is
          c.read_offered-g.ensures.model;
    }
