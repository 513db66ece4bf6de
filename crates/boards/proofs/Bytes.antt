-- What the exported functions answer of a state that was written as bytes. The main one: `step_bytes_lem`, a step through
-- the library is a step of the controller.
use mathlib.Core.Path.{◌≡◌, refl, ap}
use mathlib.Core.List.{List}
use Prim.Native.Nat.{ℕ}
use lib.ListN.{length}
use Rattle.std.proofs.Common.{arith}
use Rattle.std.proofs.lemmas.Grind.{common_steps}
use Rattle.settings.specs.declared.Settings.{Settings}
use Rattle.wire.specs.Length.{block_size}
use Rattle.wire.specs.Slot.{slot_of, silenced, OtherRun}
use Rattle.protocol.specs.declared.State.{State}
use Rattle.protocol.specs.Calls.{inbox_layout}
use Rattle.protocol.specs.Step.{start_of, step_of}
use Rattle.protocol.proofs.Laws.{step_number_lem, step_refused, late_silent}
use Rattle.state_bytes.specs.State.{state_length, state_bytes, state_of, Words}
use Rattle.reconstruction.specs.Outcomes.{outcome_number}
use Rattle.state_bytes.proofs.Laws.{length_state, read_written}
use Rattle.boards.specs.Boards.{returned, start_bytes, step_as_bytes, step_returned, step_bytes, outcome_in, named_in, final_size, final_bytes}

-- a start that is carried out writes the state that it returns to a buffer of the right length
pub start_bytes_lem : (s : Settings) (own run b : ℕ) (state : List ℕ) → length state ≡ state_length → (start_of s own run b).number ≡ 0
    → start_bytes s own run b state ≡ returned 0 (state_bytes (start_of s own run b).state)
unfolding start_bytes
start_bytes_lem s own run b state e z = grind (arith, common_steps)

-- a slot of another run than the state's is silence to every step, whatever bytes are lent
pub late-bytes : (state b i o : List ℕ) (j : ℕ) → OtherRun (inbox_layout (state_of state)) (slot_of i (inbox_layout (state_of state)) j)
    → step_bytes state b i o ≡ step_bytes state b (silenced i (inbox_layout (state_of state)) j) o
unfolding step_bytes
late-bytes state b i o j late = rw (late_silent (state_of state) b i o j late) refl

module _ (s : State) (w : Words s) where
  -- a step, refused or carried out
  pub step_bytes_lem : (b i o : List ℕ) → step_bytes (state_bytes s) b i o ≡ step_as_bytes (step_of s b i o)
  unfolding step_bytes step_returned
  step_bytes_lem b i o = grind (arith, common_steps, length_state s, read_written s w, step_number_lem s b i o, step_refused s b i o)

  pub outcome-bytes : outcome_in (state_bytes s) ≡ outcome_number s.outcome
  unfolding outcome_in
  outcome-bytes = grind (arith, common_steps, length_state s, read_written s w)

  pub named_bytes : named_in (state_bytes s) ≡ s.named
  named_bytes = ap (λ (x : State). x.named) (read_written s w)

  size_bytes : final_size (state_bytes s) ≡ block_size s.settings.n s.settings.t s.settings.k
  size_bytes = ap (λ (x : State). block_size x.settings.n x.settings.t x.settings.k) (read_written s w)

  -- the final block of a run that is at its end
  pub final_bytes_lem : (block out : List ℕ) → length block ≡ block_size s.settings.n s.settings.t s.settings.k
      → length out ≡ block_size s.settings.n s.settings.t s.settings.k
      → (outcome_number s.outcome ≡ 0 → ⊥) → final_bytes (state_bytes s) block out ≡ returned (outcome_number s.outcome) block
  unfolding final_bytes
  final_bytes_lem block out e f n = grind (arith, common_steps, length_state s, outcome-bytes, size_bytes)

-- two states with one outcome and one block length have one final block of the same block
pub final_same : (s s' : State) → Words s → Words s' → (block block' out : List ℕ) → s.outcome ≡ s'.outcome
    → block_size s.settings.n s.settings.t s.settings.k ≡ block_size s'.settings.n s'.settings.t s'.settings.k → block ≡ block'
    → final_bytes (state_bytes s) block out ≡ final_bytes (state_bytes s') block' out
unfolding final_bytes
final_same s s' w w' block block' out e f g =
    rw (length_state s, length_state s', outcome-bytes s w, outcome-bytes s' w', size_bytes s w, size_bytes s' w', e, f, g) refl
