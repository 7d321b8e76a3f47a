-- What holds between two calls holds on once the host has written into the packet store behind an unfinished packet, while bytes are awaited:
-- the front of the store stays, and nothing else of it is spoken of. Assumes nothing.
use mathlib.Core.Path.{◌≡◌, sym, ap, ◌∙◌, subst}
use mathlib.Core.List.{List, [], ◌∷◌}
use Prim.Native.Nat.{ℕ}
use native.Mathlib.Omega.{arith}
use lib.ListN.{take}
use lib.Seq.{sets, length-sets}
use Rattle.text.specs.Unicode.{Octets}
use Rattle.journal.specs.Journal.{Journal}
use Rattle.incoming.specs.Frame.{frame_end}
use Rattle.incoming.proofs.Frames.{frame_prefix}
use Rattle.incoming.proofs.BytesPlaced.{front-stays}
use Rattle.server.specs.declared.Await.{Await}
use Rattle.server.specs.declared.Await.TheVariants as await
use Rattle.model.specs.Replies.{Late}
use Rattle.model.specs.Runs.{State, writing, Writes}
use Rattle.model.proofs.Fit.{Sits, Seated}
use Rattle.model.proofs.Coupling.{CoupledAt, Coupled}
use Rattle.model.proofs.Sizes.{early, LateAt, early-late}

-- the bytes of an unfinished packet stay
module _ (s : State) (w : List ℕ) where
  open s use {engine as e, stores as st, tables as ts}

  front_same : take e.begun (sets st.packet e.begun w) ≡ take e.begun st.packet
  front_same = front-stays w st.packet e.begun e.begun (omega arith)

  written_sits : Sits e st → Sits e (writing s w).stores
  written_sits h =
      let p = st.packet in
      let b = e.begun in
      record {
        base = record {
          room = record {
            packet = rw (length-sets p b w) h.base.room.packet;
            headers = h.base.room.headers;
            reply = h.base.room.reply;
            body = h.base.room.body;
          };
          peer = h.base.peer;
          last = h.base.last;
        };
        begun = record {
          small = h.begun.small;
          octets = subst Octets (sym front_same) h.begun.octets;
          goes_on =
              frame_prefix (sets p b w) b ∙ ap (λ (q : List ℕ). frame_end q b) front_same ∙ sym (frame_prefix p b) ∙ h.begun.goes_on;
        };
        counts = h.counts;
        shape = h.shape;
      }

  written-coupled : (j : Journal) → e.awaits ≡ await.Bytes → Coupled ts e st j → Coupled ts e (writing s w).stores j
  written-coupled j i x =
      let y = subst (λ (a : Await). CoupledAt ts a e.operation e.settings e.peer e.begun e.length st j) i x in
      subst (λ (a : Await). CoupledAt ts a e.operation e.settings e.peer e.begun e.length (writing s w).stores j) (sym i)
      (record { fixed = y.fixed; begun = y.begun ∙ sym front_same; opened = y.opened })

-- by whether the host has written
pub seated_on : (s : State) (w : List ℕ) → Seated s → Seated (writing s w)
seated_on s w h = record { sits = written_sits s w h.sits; tables = h.tables }

pub coupled_on : (s : State) (w : List ℕ) → Writes s w → (j : Journal) → Coupled s.tables s.engine s.stores j
    → Coupled s.tables s.engine (writing s w).stores j
coupled_on s [] h j x = x
coupled_on s (b ∷ w) h j x = written-coupled s (b ∷ w) j h x

-- no credentials are awaited
pub late_on : (s : State) (w : List ℕ) → Writes s w → (late : Late) → LateAt s.engine s.stores late
    → LateAt s.engine (writing s w).stores late
late_on s [] h late x = x
late_on s (b ∷ w) h late x = early-late s.engine (writing s (b ∷ w)).stores late (ap early h)
