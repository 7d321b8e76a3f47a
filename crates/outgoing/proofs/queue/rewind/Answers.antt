-- `outgoing::queue::rewind` meets its contract: the lengths are those of what goes back, `both_room` decides, and each store gets its part.
-- Assumes nothing.
use Rattle.std.proofs.Common.{◌≡◌, ℕ, List, Bool, length, refl, sym, ◌∙◌}
use Rattle.outgoing.specs.declared.queue.Part.{Part}
use Rattle.outgoing.specs.Queue.{headers_back, body_back, back_bytes}
use Rattle.outgoing.proofs.Rooms.{Asked, both-fit, rewound-short, rewound-back}
use Rattle.outgoing.proofs.queue.rewind.Goals as goal

-- the parts that go back, and how long they are
abbrev parts : (b : Bool) (p : List ℕ) (of ofBody : Part) (k n : ℕ) → of ≡ headers_back b → ofBody ≡ body_back b
    → k ≡ length (back_bytes of p 0) → n ≡ length (back_bytes ofBody p 0) → Asked b p of ofBody k n
parts b p of ofBody k n x y z w = record { of_is = x; body_is = y; kept = z; chunks = w }

pub returns-in_err-rewound : goal.returns-in_err-rewound
returns-in_err-rewound c =
    let a = parts c.args.has_body c.args.packet.now _ _ _ _ c.headers_back-of_headers.ensures c.body_back-of_body.ensures c.back_len-kept.ensures.0 c.back_len-chunks.ensures.0 in
    rw c.from_residual.ensures (rewound-short _ _ _ _ _ _ _ _ _ _ _ a (sym c.in_err-rewound.was ∙ c.both_room.ensures) refl)

pub put_front-requires : goal.put_front-requires
put_front-requires c = (c.back_len-kept.ensures.0, (both-fit _ _ _ _ _ _ _ _ (sym c.in_ok-rewound.ensures)).0)

pub put_front-requires-2 : goal.put_front-requires-2
put_front-requires-2 c = (c.back_len-chunks.ensures.0, (both-fit _ _ _ _ _ _ _ _ (sym c.in_ok-rewound.ensures)).1)

pub returns : goal.returns
returns c =
    let a = parts c.args.has_body c.args.packet.now _ _ _ _ c.headers_back-of_headers.ensures c.body_back-of_body.ensures c.back_len-kept.ensures.0 c.back_len-chunks.ensures.0 in
    rewound-back _ _ _ _ _ _ _ _ _ _ _ _ _ _ _ a c.in_ok-rewound.ensures refl c.put_front.ensures c.put_front-2.ensures
