-- Late messages (document 02, U11). A step reads of its inbox nothing but the messages; a slot that carries another run's number has none. So a late
-- message of the last plan counts as silence, whatever round it is from and whoever's slot it stands in.
--   StepSame     inboxes of one length that have one message in each slot give one answer: number, state, block and outbox (law `step_same`)
--   LateSilent   every step answers as if a slot of another run were all 00 (law `late_silent`). By repetition, so of several slots
use Rattle.std.specs.Prelude.{◌≡◌, List, ℕ, length}
use Rattle.wire.specs.Slot.{slot_of, silenced, SameMessages, OtherRun}
use Rattle.protocol.specs.declared.State.{State}
use Rattle.protocol.specs.Calls.{inbox_layout}
use Rattle.protocol.specs.Step.{step_of}

abbrev pub StepSame : Type 0
StepSame = (s : State) (b i j o : List ℕ) → length i ≡ length j → SameMessages (inbox_layout s) i j → step_of s b i o ≡ step_of s b j o

abbrev pub LateSilent : Type 0
LateSilent =
    (s : State) (b i o : List ℕ) (j : ℕ) → OtherRun (inbox_layout s) (slot_of i (inbox_layout s) j)
    → step_of s b i o ≡ step_of s b (silenced i (inbox_layout s) j) o
