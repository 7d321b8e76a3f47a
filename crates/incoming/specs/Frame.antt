-- Frames (docs/PROTOCOL.md#frames; the source's engine/io.rs): bytes go to the front of the packet store, up to the packet's end and never
-- past it.
use Rattle.std.specs.Prelude.{ℕ, ◌+◌, List, [], ◌∷◌, ◌++◌, set, take, drop, ltb, leb}
use Rattle.base.specs.Pick.{pick}
use Rattle.base.specs.Bytes.{be16}
use Rattle.incoming.specs.declared.frame.Frame.{Frame}
use Rattle.incoming.specs.declared.frame.Frame.TheVariants.{More, Whole, Short}
use Rattle.incoming.specs.declared.frame.Framed.{Framed}

-- How far a packet has come with `b` bytes of it in the store `p`.
unfoldable pub frame_end : List ℕ → ℕ → Frame
frame_end p b = pick (ltb b 3) More (pick (ltb (be16 p 1) 3) Short (pick (leb (be16 p 1) b) Whole More))

-- What taking bytes gives, and the packet store afterwards.
pub record Frames : Type 0 where
  pub result : Framed
  pub packet : List ℕ

-- Makes a `Frames`.
abbrev pub frames : Framed → List ℕ → Frames
frames r p = record { result = r; packet = p }

-- The result once a byte was taken: what `rest` gives if the packet goes on.
abbrev pub frames_at : Frame → ℕ → ℕ → List ℕ → Frames → Frames
frames_at More b t p rest = rest
frames_at Whole b t p rest = frames (record { begun = b; taken = t; frame = Whole }) p
frames_at Short b t p rest = frames (record { begun = b; taken = t; frame = Short }) p

-- Bytes are taken one by one: `b` stand in the store `p`, and `t` were taken.
unfoldable pub framed : List ℕ → ℕ → ℕ → List ℕ → Frames
framed p b t [] = frames (record { begun = b; taken = t; frame = More }) p
framed p b t (x ∷ xs) =
    frames_at (frame_end (set p b x) (b + 1)) (b + 1) (t + 1) (set p b x) (framed (set p b x) (b + 1) (t + 1) xs)

-- The `n` bytes behind the first `b` of the packet store `p`, where a host may put bytes from the client itself; fewer if the store ends
-- before them.
abbrev pub placed_in : List ℕ → ℕ → ℕ → List ℕ
placed_in p b n = take n (drop b p)

-- The bytes that come with a call: those that the host has put into the packet store, then those that it offers beside it.
abbrev pub coming : List ℕ → ℕ → ℕ → List ℕ → List ℕ
coming p b n i = placed_in p b n ++ i
