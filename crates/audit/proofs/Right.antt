-- The claim on a log's bytes: a frame stands for one entry at most, so that going from frame to frame is going from entry to entry, of which
-- `frames-audited` of `journal_code` speaks. Assumes nothing.
use Rattle.std.proofs.Common.{◌≡◌, Bool, true, false, ◌||◌, eqb, List, [], ◌∷◌, ◌++◌, get_or, drop, sym, refl, ap, ◌∙◌}
use Rattle.base.specs.Pick.{pick}
use Rattle.filing.specs.Frame.{Content}
use Rattle.archive.specs.Block.{same}
use Rattle.filing.specs.Kinds.{letters_of, ids_in, entry_in, entries_in, audited}
use Rattle.filing.specs.declared.frame.Kind.{Kind}
use Rattle.filing.specs.declared.frame.Kind.TheVariants.{Recv, Part, Sent, Answ, Objt, Pass, Nonc, Clos, Done}
use Rattle.filing.specs.Entries.{LogEntry, received, sent, answered, object, checked, nonce, closed, ended, Handed}
use Rattle.journal_code.specs.declared.state.State.{State}
use Rattle.journal_code.specs.State.{fresh_state}
use Rattle.journal_code.specs.Run.{Stores, entry_done, handed_in, handed_from, state_after}
use Rattle.journal_code.specs.Claims.{settings_read}
use Rattle.journal_code.proofs.Told.{frames-audited}
use Rattle.audit.specs.Feed.{frame_done}
use Rattle.audit.specs.Right.{frame_hands, frames_done, frames_hand, AuditRight}

-- one entry at most
data Few : List LogEntry → Type 0 where
  none : Few []
  one : (e : LogEntry) → Few (e ∷ [])

few_nine : (a b c d e f g h i j : Bool) (t u v w x y z p q : LogEntry)
    → Few (pick a (t ∷ []) (pick b (u ∷ []) (pick c (v ∷ []) (pick d (w ∷ [])
    (pick e (x ∷ []) (pick f (y ∷ []) (pick g (z ∷ []) (pick h (p ∷ []) (pick i (pick j (q ∷ []) []) [])))))))))
few_nine true b c d e f g h i j t u v w x y z p q = one t
few_nine false true c d e f g h i j t u v w x y z p q = one u
few_nine false false true d e f g h i j t u v w x y z p q = one v
few_nine false false false true e f g h i j t u v w x y z p q = one w
few_nine false false false false true f g h i j t u v w x y z p q = one x
few_nine false false false false false true g h i j t u v w x y z p q = one y
few_nine false false false false false false true h i j t u v w x y z p q = one z
few_nine false false false false false false false true i j t u v w x y z p q = one p
few_nine false false false false false false false false true true t u v w x y z p q = one q
few_nine false false false false false false false false true false t u v w x y z p q = none
few_nine false false false false false false false false false j t u v w x y z p q = none

few-entry : (c : Content) → Few (entry_in c)
unfolding entry_in
few-entry c =
    let is : Kind → Bool = λ (k : Kind). same c.kind (letters_of k) in
    let p = c.payload in
    let first = get_or p 0 0 in
    few_nine (is Recv) (is Part) (is Sent) (is Answ) (is Objt) (is Pass) (is Nonc) (is Clos) (is Done) (eqb first 1 || eqb first 2)
    (received p) (received p) (sent first) (answered first (drop 1 p)) object (checked (eqb first 1)) (nonce p) (closed (ids_in p)) ended

-- the records, frame by frame and entry by entry
hands_one : (cs : List Content) (s : State) (x : Stores) (l : List LogEntry) → Few l
    → ((t : State) (y : Stores) → frames_hand t y cs ≡ handed_from t y (entries_in cs))
    → frame_hands s x l ++ frames_hand (frame_done s x l).state (frame_done s x l).stores cs ≡ handed_from s x (l ++ entries_in cs)
hands_one cs s x _ none on = on s x
hands_one cs s x _ (one e) on =
    ap (λ (l : List Handed). handed_in (entry_done s x e) ++ l) (on (entry_done s x e).state (entry_done s x e).stores)

hands : (cs : List Content) (s : State) (x : Stores) → frames_hand s x cs ≡ handed_from s x (entries_in cs)
hands [] s x = refl
hands (c ∷ cs) s x = hands_one cs s x (entry_in c) (few-entry c) (λ t y. hands cs t y)

-- the state, frame by frame and entry by entry
stands_one : (cs : List Content) (s : State) (x : Stores) (l : List LogEntry) → Few l
    → ((t : State) (y : Stores) → (frames_done t y cs).state ≡ state_after t y (entries_in cs))
    → (frames_done (frame_done s x l).state (frame_done s x l).stores cs).state ≡ state_after s x (l ++ entries_in cs)
stands_one cs s x _ none on = on s x
stands_one cs s x _ (one e) on = on (entry_done s x e).state (entry_done s x e).stores

stands : (cs : List Content) (s : State) (x : Stores) → (frames_done s x cs).state ≡ state_after s x (entries_in cs)
stands [] s x = refl
stands (c ∷ cs) s x = stands_one cs s x (entry_in c) (few-entry c) (λ t y. stands cs t y)

pub audit-right : AuditRight
audit-right bytes c cs x e r o f =
    let s = fresh_state (settings_read c.payload) in
    hands cs s x
    ∙ frames-audited c cs x r o (λ z. f (ap (λ (y : State). y.number) (stands cs s x) ∙ z))
    ∙ sym (ap audited e)
