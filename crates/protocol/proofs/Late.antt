-- A step reads of its inbox nothing but the messages (`step_same`), so that a slot of another run is silence to it (`late_silent`).
use mathlib.Core.Path.{◌≡◌, refl, sym, ap, ap₂}
use mathlib.Core.Bool.{cond}
use mathlib.Core.List.{List}
use Prim.Native.Nat.{ℕ}
use lib.Dec.{eqb}
use lib.ListN.{length}
use Rattle.wire.specs.declared.Call.{Call}
use Rattle.wire.specs.declared.Call.TheVariants.{Send, Receive, Compare, Collect, Tally, Hold, Settle, Core, Choose, Finish, Outside}
use Rattle.wire.specs.Round.{call_kind}
use Rattle.wire.specs.Slot.{silenced, to_all, SameMessages}
use Rattle.wire.proofs.Laws.{other_run_absent, length-silenced, silenced_reads}
use Rattle.dispersal.specs.Dispersal.{sent_pieces, sent_marks}
use Rattle.dispersal.proofs.Laws.{received_same, marks_same}
use Rattle.phase_king.specs.Matrix.{seen_message, sent_by_king}
use Rattle.phase_king.proofs.Laws.{first_same, zeros_same, ones_same, held_same, weak_same, settled_same}
use Rattle.reconstruction.specs.declared.Outcome.TheVariants.{Open}
use Rattle.reconstruction.specs.Reconstruction.{Finished, forwarded}
use Rattle.reconstruction.proofs.Laws.{shared_same, finished_same}
use Rattle.protocol.specs.declared.State.{State}
use Rattle.protocol.specs.State.{advanced, with_matrix, with_votes, with_core, with_named}
use Rattle.protocol.specs.Calls.{Carried, carried, inbox_layout, outbox_layout, read_phase, write_phase, core_of, matrix_to_all, settled_matrix, call_of}
use Rattle.protocol.specs.Step.{step_refusal, after, done, step_of}
use Rattle.protocol.specs.Late.{StepSame, LateSilent}

module _ (s : State) (b i j o : List ℕ) (e : length i ≡ length j) (h : SameMessages (inbox_layout s) i j) where
  settled_is_same : settled_matrix s i ≡ settled_matrix s j
  settled_is_same = settled_same (inbox_layout s) i j h s.matrix s.weak s.settings.n (read_phase s)

  -- each call
  call_same : (c : Call) → call_of c s b i o ≡ call_of c s b j o
  unfolding call_of
  call_same Send = refl
  call_same Receive =
      ap (λ (x : List ℕ). carried (advanced s Open) x (sent_pieces s.run s.settings.n s.settings.t s.settings.k s.own x o))
      (received_same (inbox_layout s) i j h s.settings.sender b)
  call_same Compare =
      ap (λ (m : ℕ). carried (advanced s Open) b (sent_marks (outbox_layout s) s.settings.n m o))
      (marks_same (inbox_layout s) i j h s.settings.n s.settings.t s.settings.k s.own b)
  call_same Collect =
      ap (λ (m : List ℕ). carried (with_matrix (advanced s Open) m) b (matrix_to_all s m o)) (first_same (inbox_layout s) i j h s.settings.n)
  call_same Tally =
      ap₂ (λ (x y : List ℕ). carried (advanced s Open) b (to_all (outbox_layout s) s.settings.n (seen_message s.settings.n x y) o))
      (zeros_same (inbox_layout s) i j h s.settings.n s.settings.t) (ones_same (inbox_layout s) i j h s.settings.n s.settings.t)
  call_same Hold =
      ap₂ (λ (m w : List ℕ). carried (with_votes (advanced s Open) m w) b (sent_by_king (outbox_layout s) s.own (write_phase s) s.settings.n m o))
      (held_same (inbox_layout s) i j h s.settings.n s.settings.t) (weak_same (inbox_layout s) i j h s.settings.n s.settings.t)
  call_same Settle = ap (λ (m : List ℕ). carried (with_matrix (advanced s Open) m) b (matrix_to_all s m o)) settled_is_same
  call_same Core =
      ap (λ (m : List ℕ).
      let core = core_of m s.settings.n s.settings.t in
      carried (with_core (advanced s Open) m core) b (forwarded s.run s.settings.n s.settings.t s.settings.k s.own core b o)) settled_is_same
  call_same Choose =
      ap (carried (advanced s Open) b)
      (shared_same (inbox_layout s) i j h s.settings.n s.settings.t s.settings.k s.own s.core b o)
  call_same Finish =
      ap (λ (f : Finished). carried (with_named (advanced s f.ending.outcome) f.ending.named) f.block o)
      (finished_same (inbox_layout s) i j h s.settings.n s.settings.t s.core b e)
  call_same Outside = refl

pub step_same : StepSame
unfolding step_of
step_same s b i j o e h =
    ap₂ (λ (r : ℕ) (c : Carried). cond (eqb r 0) (done c) (after (record { number = r; state = s }) b o))
    (ap (λ (l : ℕ). step_refusal s (length b) l (length o)) e)
    (call_same s b i j o e h (call_kind s.settings.t s.next))

pub late_silent : LateSilent
late_silent s b i o j late =
    let layout = inbox_layout s in
    step_same s b i (silenced i layout j) o (sym (length-silenced i layout j))
    (silenced_reads i layout j (other_run_absent i layout j late))
