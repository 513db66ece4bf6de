-- Runs made through the exported functions of `boards`, with the state as bytes, and what demand 3 says of them. The contracts of
-- `potekawhi_start`, `potekawhi_step`, `potekawhi_outcome`, `potekawhi_final_block` and `potekawhi_named` are the equations `start_bytes`, `step_bytes`,
-- `outcome_in`, `final_bytes` and `named_in` that are used here.
--   Kept                          what the caller keeps from each step to the next: the state's bytes and the block
--   makes c l                     one step through the library
--   kept c l                      what it leaves to the next
--   kept_after c ls               what is kept after a list of steps
--   kept_from s own run b buffer  what start leaves in a buffer, and the block lent to it
--   LibraryRuns                   after a start that is carried out, every step of every list of steps through the library is that of the run of
--                                 `agreement`: its number, block and outbox, and the state as bytes
--   kept_at S buffers i           what controller i keeps after all its steps, with a buffer of its own
--   SetByLastCall ..              controller i's outcome and block are those that the last call sets
--   OneOutcome S buffers          these; later steps answer 8 and change nothing; one outcome and one block; one final block; with a correct sender the
--                                 outcome agreed, 1, and the sender's block; without a sender (document 02, U6) agreed and the block that all correct
--                                 controllers were started with, if it was one
--   LibraryAgrees                 that holds of every system that `agreement` supposes, run through the library
--   NamedRight S buffers          document 02, U1: with the outcome agreed a correct controller names those whose piece in the last round was absent, or was
--                                 not, byte for byte, their piece of its block; with any other outcome nobody; and no correct controller in any case. So
--                                 whoever is named by t + 1 is not correct, whatever marks those show who are not correct themselves
--   LibraryNames                  that holds of every such system
--   calls_kept c ls               what is kept after each call among a list of steps: each step that answers 0
--   none_kept                     nothing
--   kept_after_call ..            what controller i keeps after its call c; past its calls `none_kept`
--   HeldBefore S buffers          document 02, U14: if a correct controller's outcome is agreed, at least t + 1 correct ones kept its block, byte for byte,
--                                 after call 2, and whoever did so keeps it after every later call; if the sender is correct, every correct controller is
--                                 in the core, in the state that each keeps, from call 3t + 7 on
--   LibraryHeld                   that holds of every such system
--   LibraryLate                   document 02, U11: whatever bytes are lent, every step answers and leaves what it would if a slot of another run than the
--                                 state's were all 00
use Rattle.std.specs.Prelude.{◌≡◌, true, false, cond, ◌&&◌, List, [], ◌∷◌, ℕ, ◌+◌, ◌-◌, ◌*◌, ◌≤◌, ◌<◌, eqb, length, get_or, replicate}
use Rattle.lists.specs.Same.{same}
use Rattle.lists.specs.Sum.{count}
use Rattle.settings.specs.declared.Settings.{Settings}
use Rattle.bitset.specs.Set.{member, restricted}
use Rattle.wire.specs.Slot.{slot_of, silenced, OtherRun}
use Rattle.reed_solomon.specs.Decode.{Decodes, named_of}
use Rattle.reconstruction.specs.declared.Outcome.TheVariants.{Agreed, None, Beyond}
use Rattle.reconstruction.specs.Outcomes.{outcome_number}
use Rattle.protocol.specs.Calls.{inbox_layout}
use Rattle.protocol.specs.Step.{start_of}
use Rattle.agreement.specs.Run.{Lent, stepped, left_after, begun}
use Rattle.agreement.specs.Agreement.{System, Correct, Supposed, StartedAlike, piece_layout, last, last_core, last_inbox}
use Rattle.state_bytes.specs.State.{state_length, state_of}
use Rattle.boards.specs.Boards.{ReturnedStep, returned_step, step_as_bytes, start_bytes, step_bytes, outcome_in, named_in, final_bytes, returned}

pub record Kept : Type 0 where
  pub state : List ℕ
  pub block : List ℕ

abbrev pub makes : Kept → Lent → ReturnedStep
makes c l = step_bytes c.state c.block l.inbox l.outbox

abbrev pub kept : Kept → Lent → Kept
kept c l = record { state = (makes c l).state; block = (makes c l).block }

abbrev pub kept_after : Kept → List Lent → Kept
kept_after c [] = c
kept_after c (l ∷ ls) = kept_after (kept c l) ls

abbrev pub kept_from : Settings → (own run : ℕ) → List ℕ → List ℕ → Kept
kept_from s own run b buffer = record { state = (start_bytes s own run (length b) buffer).bytes; block = b }

abbrev pub LibraryRuns : Type 0
LibraryRuns =
    (s : Settings) (own run : ℕ) (b buffer : List ℕ) → run < 65536 → length buffer ≡ state_length → (ls : List Lent) (l : Lent)
    → (start_of s own run (length b)).number ≡ 0
    → makes (kept_after (kept_from s own run b buffer) ls) l ≡ step_as_bytes (stepped (left_after (begun s own run b) ls) l)

abbrev pub kept_at : System → (ℕ → List ℕ) → ℕ → Kept
kept_at S buffers i = kept_after (kept_from S.settings i S.run (S.block i) (buffers i)) (S.steps i)

-- document 01's last call: no core: none, and zeros; else agreed and the block that meets decoding's rule (document 02, U2); if there is none, beyond
-- and zeros
pub record SetByLastCall (S : System) (buffers : ℕ → List ℕ) (i : ℕ) : Type 0 where
  pub none : restricted (last_core S i) S.settings.n ≡ 0
      → (outcome_in (kept_at S buffers i).state ≡ outcome_number None) × ((kept_at S buffers i).block ≡ replicate (length (S.block i)) 0)
  pub agreed : (restricted (last_core S i) S.settings.n ≡ 0 → ⊥)
      → (B : List ℕ) → Decodes S.settings.n S.settings.t (piece_layout S) (last_inbox S i) B
      → (outcome_in (kept_at S buffers i).state ≡ outcome_number Agreed) × ((kept_at S buffers i).block ≡ B)
  pub beyond : (restricted (last_core S i) S.settings.n ≡ 0 → ⊥)
      → ((B : List ℕ) → Decodes S.settings.n S.settings.t (piece_layout S) (last_inbox S i) B → ⊥)
      → (outcome_in (kept_at S buffers i).state ≡ outcome_number Beyond) × ((kept_at S buffers i).block ≡ replicate (length (S.block i)) 0)

pub record OneOutcome (S : System) (buffers : ℕ → List ℕ) : Type 0 where
  -- each correct controller's outcome and block are those that the last call sets, and later steps answer 8 and change nothing
  pub set : (i : ℕ) → Correct S i → SetByLastCall S buffers i
  pub later : (i : ℕ) → Correct S i → (l : Lent)
      → makes (kept_at S buffers i) l ≡ returned_step 8 (kept_at S buffers i).state (kept_at S buffers i).block l.outbox
  pub same_outcome : (i j : ℕ) → Correct S i → Correct S j → outcome_in (kept_at S buffers i).state ≡ outcome_in (kept_at S buffers j).state
  pub same_block : (i j : ℕ) → Correct S i → Correct S j → (kept_at S buffers i).block ≡ (kept_at S buffers j).block
  -- and what the final block is copied to, out, holds the same
  pub same_final : (i j : ℕ) → Correct S i → Correct S j → (out : List ℕ)
      → final_bytes (kept_at S buffers i).state (kept_at S buffers i).block out ≡ final_bytes (kept_at S buffers j).state (kept_at S buffers j).block out
  pub sender_final : (i : ℕ) → Correct S S.settings.sender → Correct S i → (out : List ℕ) → length out ≡ length (S.block S.settings.sender)
      → final_bytes (kept_at S buffers i).state (kept_at S buffers i).block out ≡ returned 1 (S.block S.settings.sender)
  pub alike_final : (i : ℕ) (B : List ℕ) → StartedAlike S B → Correct S i → (out : List ℕ) → length out ≡ length B
      → final_bytes (kept_at S buffers i).state (kept_at S buffers i).block out ≡ returned 1 B

abbrev pub LibraryAgrees : Type 0
LibraryAgrees = (S : System) → Supposed S → (buffers : ℕ → List ℕ) → ((i : ℕ) → length (buffers i) ≡ state_length) → OneOutcome S buffers

pub record NamedRight (S : System) (buffers : ℕ → List ℕ) : Type 0 where
  pub agreed : (i : ℕ) → Correct S i → outcome_in (kept_at S buffers i).state ≡ outcome_number Agreed
      → named_in (kept_at S buffers i).state ≡ named_of S.settings.n S.settings.t (piece_layout S) (last_inbox S i) (kept_at S buffers i).block
  pub other : (i : ℕ) → Correct S i → (outcome_in (kept_at S buffers i).state ≡ outcome_number Agreed → ⊥) → named_in (kept_at S buffers i).state ≡ 0
  pub no_correct : (i j : ℕ) → Correct S i → Correct S j → member (named_in (kept_at S buffers i).state) (j - 1) ≡ false
  -- whoever's slot in the last round carries another run's number (document 02, U11)
  pub late : (i j : ℕ) → Correct S i → 1 ≤ j → j ≤ S.settings.n → outcome_in (kept_at S buffers i).state ≡ outcome_number Agreed
      → OtherRun (piece_layout S) (slot_of (last_inbox S i) (piece_layout S) j) → member (named_in (kept_at S buffers i).state) (j - 1) ≡ true
  pub by_many : (shown : ℕ → ℕ) → ((i : ℕ) → Correct S i → shown i ≡ named_in (kept_at S buffers i).state)
      → (j : ℕ) → S.settings.t + 1 ≤ count S.settings.n (λ x. member (shown (x + 1)) (j - 1)) → Correct S j → ⊥

abbrev pub LibraryNames : Type 0
LibraryNames = (S : System) → Supposed S → (buffers : ℕ → List ℕ) → ((i : ℕ) → length (buffers i) ≡ state_length) → NamedRight S buffers

abbrev pub calls_kept : Kept → List Lent → List Kept
calls_kept c [] = []
calls_kept c (l ∷ ls) = cond (eqb (makes c l).number 0) (kept c l ∷ calls_kept (kept c l) ls) (calls_kept (kept c l) ls)

abbrev pub none_kept : Kept
none_kept = record { state = []; block = [] }

abbrev pub kept_after_call : System → (ℕ → List ℕ) → (i c : ℕ) → Kept
kept_after_call S buffers i c = get_or (calls_kept (kept_from S.settings i S.run (S.block i) (buffers i)) (S.steps i)) (c - 1) none_kept

pub record HeldBefore (S : System) (buffers : ℕ → List ℕ) : Type 0 where
  -- runs without a sender, sender 0, are covered: there call 2 keeps the block that the controller was started with
  pub held_by_many : (i : ℕ) → Correct S i → outcome_in (kept_at S buffers i).state ≡ outcome_number Agreed
      → S.settings.t + 1
      ≤ count S.settings.n (λ x. S.correct (x + 1) && same (kept_after_call S buffers (x + 1) 2).block (kept_at S buffers i).block)
  pub held_on : (i j : ℕ) → Correct S i → Correct S j → outcome_in (kept_at S buffers i).state ≡ outcome_number Agreed
      → (kept_after_call S buffers j 2).block ≡ (kept_at S buffers i).block
      → (c : ℕ) → 2 ≤ c → c ≤ last S → (kept_after_call S buffers j c).block ≡ (kept_at S buffers i).block
  pub all_in_core : Correct S S.settings.sender → (i j : ℕ) → Correct S i → Correct S j
      → (c : ℕ) → 3 * S.settings.t + 7 ≤ c → c ≤ last S → member (state_of (kept_after_call S buffers i c).state).core (j - 1) ≡ true

abbrev pub LibraryHeld : Type 0
LibraryHeld = (S : System) → Supposed S → (buffers : ℕ → List ℕ) → ((i : ℕ) → length (buffers i) ≡ state_length) → HeldBefore S buffers

abbrev pub LibraryLate : Type 0
LibraryLate =
    (state b i o : List ℕ) (j : ℕ) → OtherRun (inbox_layout (state_of state)) (slot_of i (inbox_layout (state_of state)) j)
    → step_bytes state b i o ≡ step_bytes state b (silenced i (inbox_layout (state_of state)) j) o
