-- The bytes on their way to the server are bytes, if each packet that waits is of bytes. Assumes nothing.
use mathlib.Core.Path.{◌≡◌, refl}
use mathlib.Core.List.{List, [], ◌∷◌, ◌++◌}
use mathlib.Core.Option.{Option, none, some}
use Prim.Native.Nat.{ℕ, zero, suc}
use lib.ListN.{take, drop}
use Rattle.base.specs.Pick.{pick}
use Rattle.text.specs.Unicode.{Octets}
use Rattle.journal.specs.Calls.{Call, bytes_offered_of}
use Rattle.server.specs.declared.Outcome.{Outcome as ServerOutcome}
use Rattle.server.specs.declared.Outcome.TheVariants as told
use Rattle.model.specs.Runs.{step_of}
use Rattle.client_model.specs.declared.Outcome.{Outcome}
use Rattle.client_model.specs.declared.Outcome.TheVariants as said
use Rattle.link.specs.Link.{Link, Move, user, host, sendUp, sendDown, offerUp, offerDown, closeUp, closeDown, is_answer, sends_down, reply_bytes, closes_up, call_after, up_after, close_after, move}
use Rattle.link.proofs.ConnectReplies.{octets-append}
use Rattle.link.proofs.Parts.{SendsOctets}

octets-drop : (n : ℕ) (u : List ℕ) → Octets u → Octets (drop n u)
octets-drop zero u o = o
octets-drop (suc n) [] o = o
octets-drop (suc n) (x ∷ u) o = octets-drop n u (λ i. o (suc i))

pub octets-moved : (l : Link) → Octets l.up → SendsOctets l → (m : Move) → Octets (move l m).up
unfolding move
octets-moved l o h m = by m
  where
    called : (c : Option Call) (down : List ℕ) → Octets (call_after c l down).up
    called none down = o
    called (some c) down = octets-drop (step_of l.server c).took.taken l.up o

    sent : (x : Outcome) → l.said ≡ x → Octets (up_after x l).up
    sent (said.Send n) e = octets-append l.up (take n l.stores.request) o (h n e)
    sent said.Ready e = o
    sent said.WantsBytes e = o
    sent (said.Read n) e = o
    sent (said.Part k b) e = o
    sent (said.Done c n) e = o
    sent (said.Stopped c n) e = o
    sent (said.Aborted c n) e = o
    sent (said.End x) e = o
    sent (said.Refused r) e = o

    closed : (x : ServerOutcome) (down : List ℕ) → Octets (close_after x down l).up
    closed (told.End x) [] = o
    closed (told.End x) (b ∷ down) = o
    closed told.WantsBytes down = o
    closed (told.Reply n) down = o
    closed (told.Request r) down = o
    closed (told.Refused r) down = o

    by : (m : Move) → Octets (move l m).up
    by (user u) = o
    by (host c) = called (pick (is_answer c) (some c) none) l.down
    by sendUp = sent l.said refl
    by sendDown = called (sends_down l.told) (l.down ++ reply_bytes l.told l.server.stores.reply)
    by (offerUp n) = called (some (bytes_offered_of (take n l.up))) l.down
    by (offerDown n) = o
    by closeUp = called (closes_up l.said l.up) l.down
    by closeDown = closed l.told l.down
